-- What is written at the place of a name is what the change says.
use Rattle.std.proofs.Common.{◌≡◌, ℕ, nat_eq, nat_le, ◌≤◌, Bool, true, false, cond, List, [], ◌∷◌, ◌++◌, length, Option, Some, None, is_some, slice_get, sym, ap, ◌∙◌, arith}
use Rattle.std.specs.{Prelude.{if◌then◌else◌}, Option.{option_and_then}, Cmp.Lexicographic.{pointwise, nat_list_eq_equiv}}
use Rattle.std.proofs.lemmas.Bool.Decides.{nat_tests}
use Rattle.mon_catalogue.{specs.declared.data_set.DataSet.{DataSet}, specs.Sets.{Sets, find_set}, specs.Changes.{with_changed}, proofs.Changing.{changed_there}}
use Rattle.ledger_sets.specs.Applying.{kept_as, keeping, put_set}

pub keeps : (given name : List ℕ) (first : ℕ) (ls : List (List ℕ)) (sets : Sets) (set new : DataSet) → name ≡ given → Some set ≡ find_set name sets
    → first ≤ length set.records → new ≡ kept_as first ls set → keeping given first ls sets ≡ Some (with_changed name (λ _. new) sets)
keeps given name first ls sets set new same found there is =
    let all : nat_le first (length set.records) ≡ true = grind (arith, nat_tests, there) in
    ap (λ (n : List ℕ). keeping n first ls sets) (sym same)
    ∙ ap (option_and_then (λ set. if nat_le first (length set.records) then Some (with_changed name (kept_as first ls) sets) else None)) (sym found)
    ∙ ap (λ (b : Bool). if b then Some (with_changed name (kept_as first ls) sets) else None) all
    ∙ ap (λ (l : Sets). Some l) (sym (changed_there name (kept_as first ls) sets set found))
    ∙ ap (λ (s : DataSet). Some (with_changed name (λ _. s) sets)) (sym is)

pub put_there : (name : List ℕ) (was set : DataSet) (sets : Sets) → Some was ≡ find_set name sets → with_changed name (λ _. set) sets ≡ put_set name set sets
put_there name was set sets found = ap (λ (o : Option DataSet). if is_some o then with_changed name (λ _. set) sets else sets ++ (name, set) ∷ []) found

last : (name : List ℕ) (set empty : DataSet) (sets : Sets) → None ≡ find_set name sets → with_changed name (λ _. set) (sets ++ (name, empty) ∷ []) ≡ sets ++ (name, set) ∷ []
last name set empty [] none = ap (λ (b : Bool). cond b ((name, set) ∷ []) ((name, empty) ∷ [])) (nat_list_eq_equiv.refl name)
last name set empty (one ∷ sets) none = by (pointwise nat_eq name one.0) none (last name set empty sets)
  where
    by : (b : Bool) → None ≡ cond b (Some one.1) (find_set name sets)
        → (None ≡ find_set name sets → with_changed name (λ _. set) (sets ++ (name, empty) ∷ []) ≡ sets ++ (name, set) ∷ [])
        → cond b ((one.0, set) ∷ (sets ++ (name, empty) ∷ [])) (one ∷ with_changed name (λ _. set) (sets ++ (name, empty) ∷ [])) ≡ one ∷ (sets ++ (name, set) ∷ [])
    by true none rest = cc
    by false none rest = ap (λ (l : Sets). one ∷ l) (rest none)

pub put_last : (name : List ℕ) (set empty : DataSet) (sets : Sets) → None ≡ find_set name sets
    → with_changed name (λ _. set) (sets ++ (name, empty) ∷ []) ≡ put_set name set sets
put_last name set empty sets none =
    last name set empty sets none ∙ ap (λ (o : Option DataSet). if is_some o then with_changed name (λ _. set) sets else sets ++ (name, set) ∷ []) none

pub first_is : (sets : Sets) (name copied : List ℕ) (set : DataSet) → copied ≡ name → Some (name, set) ≡ slice_get sets 0
    → (x : DataSet) × (rest : Sets) × (sets ≡ (copied, x) ∷ rest)
first_is [] name copied set same is = cc
first_is (one ∷ rest) name copied set same is = (set, rest, first)
  where
    inside : Some (name, set) ≡ Some one → (name, set) ≡ one
    inside h = cc (h)

    first : one ∷ rest ≡ (copied, set) ∷ rest
    first = ap (λ (e : List ℕ × DataSet). e ∷ rest) (sym (inside is)) ∙ ap (λ (n : List ℕ). (n, set) ∷ rest) (sym same)
