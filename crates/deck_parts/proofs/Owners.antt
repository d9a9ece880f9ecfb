-- Whose data sets there are, behind a command.
use Rattle.std.proofs.Common.{◌≡◌, ℕ, nat_eq, nat_lt, Bool, true, false, not, ◌&&◌, List, [], ◌∷◌, ◌++◌, length, Option, None, Some, is_some, if◌then◌else◌, refl, sym, ap, ◌∙◌}
use Rattle.std.{specs.Cmp.Lexicographic.{pointwise}, specs.Map.{remove_entry}}
use Rattle.indexmap.{specs.IndexMap.{IndexMap, insert_entry}, proofs.CallerLemmas.{insert_entry-new}}
use Rattle.deck_parts.specs.Owning.{Owned, owner_of, is_owner, may_be_created, created, deleted}

-- no data set has the name of one that may be created
absent : (name : List ℕ) (owned : Owned) → may_be_created name owned ≡ true → owner_of name owned ≡ None
absent name owned may = by (owner_of name owned) refl may
  where
    by : (owner : Option (List ℕ)) → owner_of name owned ≡ owner → (not (is_some owner) && nat_lt (length owned) 1000) ≡ true → owner_of name owned ≡ None
    by None is _ = is
    by (Some owner) is may_be = absurd (let no : false ≡ true = may_be in cc)

module _ {S : Type 0} (m : IndexMap (List ℕ) (List ℕ) S) (account name : List ℕ) (new : Owned) where
  pub one_more : may_be_created name m.entries ≡ true → new ≡ insert_entry (pointwise nat_eq) m.entries name account → new ≡ created account name m.entries
  one_more may put =
      put ∙ insert_entry-new (pointwise nat_eq) m name account (absent name m.entries may)
      ∙ sym (ap (λ (b : Bool). if b then m.entries ++ (name, account) ∷ [] else m.entries) may)

  pub no_more : may_be_created name m.entries ≡ false → new ≡ m.entries → new ≡ created account name m.entries
  no_more may same = same ∙ sym (ap (λ (b : Bool). if b then m.entries ++ (name, account) ∷ [] else m.entries) may)

  pub gone : is_owner account (owner_of name m.entries) ≡ true → new ≡ remove_entry (pointwise nat_eq name) m.entries → new ≡ deleted account name m.entries
  gone own removed = removed ∙ sym (ap (λ (b : Bool). if b then remove_entry (pointwise nat_eq name) m.entries else m.entries) own)

  pub stays : is_owner account (owner_of name m.entries) ≡ false → new ≡ m.entries → new ≡ deleted account name m.entries
  stays other same = same ∙ sym (ap (λ (b : Bool). if b then remove_entry (pointwise nat_eq name) m.entries else m.entries) other)
