-- A data set that is brought back is as it was, and the others are as they are.
use Rattle.std.proofs.Common.{◌≡◌, ℕ, nat_eq, Bool, true, false, cond, List, [], ◌∷◌, ◌++◌, Option, Some, None, is_some, option_map, refl, sym, ap, ◌∙◌, subst}
use Rattle.std.specs.{Prelude.{◌≢◌, if◌then◌else◌}, Cmp.Lexicographic.{pointwise, bytes_decides, nat_list_eq_equiv}}
use Rattle.mon_catalogue.specs.{declared.data_set.DataSet.{DataSet}, Sets.{Sets, find_set}, Changes.{with_changed}, Laws.{NamedSetChanges, OtherSetsStay}}
use Rattle.mon_catalogue.specs.Stored.{IsStored, ArePrintable}
use Rattle.ledger_sets.specs.{Applying.{Site, with_sets, after_all, after_change}, Changes.{changes_between, change_text}}
use Rattle.ledger_sets.specs.Laws.{AreSmall, ChangesLead, TextsLead}
use Rattle.ledger_restoring.specs.{Restoring.{put_or_gone}, Laws.{RestoresIt, KeepsOthers}}

-- the text of the changes between two catalogues leads from the one to the other
pub leads : (changes_lead : ChangesLead) (texts_lead : TextsLead) (before after : Sets) (text : List ℕ) → IsStored before → ArePrintable before
    → IsStored after → ArePrintable after → text ≡ change_text (changes_between before after) → (site : Site) → site.sets ≡ before
    → AreSmall (changes_between before after) → after_change text site ≡ Some (with_sets site after)
leads changes_lead texts_lead before after text stored printable good fine is site here small =
    ap (λ (t : List ℕ). after_change t site) is ∙ texts_lead (changes_between before after) site small
    ∙ ap (λ (sets : Sets). after_all (changes_between sets after) site) (sym here)
    ∙ changes_lead site after (subst IsStored (sym here) stored) (subst ArePrintable (sym here) printable) good fine

-- ---- one that stands last

found_last : (name : List ℕ) (set : DataSet) (sets : Sets) → None ≡ find_set name sets → find_set name (sets ++ (name, set) ∷ []) ≡ Some set
found_last name set [] none = ap (λ (b : Bool). cond b (Some set) None) (nat_list_eq_equiv.refl name)
found_last name set (one ∷ sets) none = by (pointwise nat_eq name one.0) none (found_last name set sets)
  where
    by : (b : Bool) → None ≡ cond b (Some one.1) (find_set name sets)
        → (None ≡ find_set name sets → find_set name (sets ++ (name, set) ∷ []) ≡ Some set)
        → cond b (Some one.1) (find_set name (sets ++ (name, set) ∷ [])) ≡ Some set
    by true none rest = absurd (cc (none))
    by false none rest = rest none

apart_from_last : (name other : List ℕ) (set : DataSet) (sets : Sets) → pointwise nat_eq other name ≡ false
    → find_set other (sets ++ (name, set) ∷ []) ≡ find_set other sets
apart_from_last name other set [] differ = ap (λ (b : Bool). cond b (Some set) None) differ
apart_from_last name other set (one ∷ sets) differ =
    ap (λ (o : Option DataSet). cond (pointwise nat_eq other one.0) (Some one.1) o) (apart_from_last name other set sets differ)

differs : (name other : List ℕ) → other ≢ name → pointwise nat_eq other name ≡ false
differs name other apart = by (pointwise nat_eq other name) refl
  where
    by : (b : Bool) → pointwise nat_eq other name ≡ b → pointwise nat_eq other name ≡ false
    by true e = absurd (apart ((bytes_decides other name).0 e))
    by false e = e

-- ---- one that is put, or taken out

abbrev putting : Bool → List ℕ → DataSet → Sets → Sets
putting there name set sets = if there then with_changed name (λ _. set) sets else sets ++ (name, set) ∷ []

pub restores_it : NamedSetChanges → RestoresIt
restores_it changes name past present differ = by (find_set name past)
  where
    put : (set : DataSet) (o : Option DataSet) → o ≡ find_set name present → find_set name (putting (is_some o) name set present) ≡ Some set
    put set (Some was) is = (changes name present (λ _. set)).1 ∙ ap (option_map (λ (s : DataSet). set)) (sym is)
    put set None is = found_last name set present is

    by : (o : Option DataSet) → find_set name (put_or_gone name o present) ≡ o
    by (Some set) = put set (find_set name present) refl
    by None = (changes name present (λ set. set)).0 differ

pub keeps_others : OtherSetsStay → KeepsOthers
keeps_others stay name other past present apart = by (find_set name past)
  where
    put : (set : DataSet) (b : Bool) → find_set other (putting b name set present) ≡ find_set other present
    put set true = (stay name other present (λ _. set) apart).1
    put set false = apart_from_last name other set present (differs name other apart)

    by : (o : Option DataSet) → find_set other (put_or_gone name o present) ≡ find_set other present
    by (Some set) = put set (is_some (find_set name present))
    by None = (stay name other present (λ set. set) apart).0
