-- The owner of a data set, as a test and as a fact.
use Rattle.std.proofs.Common.{◌≡◌, Bool, true, false, refl, sym, ◌∙◌}
use Rattle.std.proofs.lemmas.Slice.Eq.{bytes_eq-Decides}
use Rattle.mon_access.specs.{declared.account.Account.{Account}, Matches.{is_owner}}
use Rattle.mon_catalogue.specs.declared.data_set.DataSet.{DataSet}
use Rattle.mon_guard.specs.Laws.{Owns}

module _ (account : Account) (set : DataSet) where
  pub is_owner_true : Owns account set → is_owner account set.owner ≡ true
  is_owner_true owns = (bytes_eq-Decides account.name set.owner).1 owns

  pub owns_from : is_owner account set.owner ≡ true → Owns account set
  owns_from e = (bytes_eq-Decides account.name set.owner).0 e

  pub owns_not : is_owner account set.owner ≡ false → ¬ Owns account set
  owns_not e owns = let no : true ≡ false = sym (is_owner_true owns) ∙ e in cc

  pub is_owner_false : (¬ Owns account set) → is_owner account set.owner ≡ false
  is_owner_false not = by (is_owner account set.owner) refl
    where
      by : (b : Bool) → is_owner account set.owner ≡ b → is_owner account set.owner ≡ false
      by true e = absurd (not (owns_from e))
      by false e = e
