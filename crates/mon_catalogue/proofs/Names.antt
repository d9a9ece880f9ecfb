-- Names that differ.
use Rattle.std.proofs.Common.{◌≡◌, ℕ, ◌<◌, nat_eq, Bool, true, false, cond, ◌||◌, List, [], ◌∷◌, ◌++◌, Option, None, Some, is_some, length, refl, sym, ap, subst, ◌∙◌, append_assoc, true≢false, arith, length-append}
use Rattle.std.specs.{List.{IsDistinct, AllByRecursion, list_any}, Map.{keys_of}, Cmp.Lexicographic.{pointwise, nat_list_eq_equiv}}
use Rattle.std.proofs.lemmas.{List.{map-append}, Map.Keys.{IsDistinct-head, IsDistinct-tail}}
use Rattle.mon_catalogue.specs.{declared.data_set.DataSet.{DataSet}, Sets.{Sets, find_set, IsCatalogue}}

-- a set is found exactly where its name is among the names
pub any_name : (name : List ℕ) (sets : Sets) → is_some (find_set name sets) ≡ list_any (pointwise nat_eq name) (keys_of sets)
any_name name [] = refl
any_name name (set ∷ sets) = by (pointwise nat_eq name set.0) (any_name name sets)
  where
    by : (same : Bool) → is_some (find_set name sets) ≡ list_any (pointwise nat_eq name) (keys_of sets)
        → is_some (cond same (Some set.1) (find_set name sets)) ≡ (same || list_any (pointwise nat_eq name) (keys_of sets))
    by true rest = refl
    by false rest = rest

pub not_found : (o : Option DataSet) → is_some o ≡ false → o ≡ None
not_found None h = refl
not_found (Some set) h = absurd (true≢false h)

-- where names differ, none of those before a name is that name
pub none_before : (names : List (List ℕ)) (name : List ℕ) (others : List (List ℕ)) → IsDistinct (pointwise nat_eq) (names ++ name ∷ others)
    → list_any (pointwise nat_eq name) names ≡ false
none_before [] name others differ = refl
none_before (first ∷ names) name others differ =
    let apart = among names (IsDistinct-head (pointwise nat_eq) first (names ++ name ∷ others) differ) in
    let rest = none_before names name others (IsDistinct-tail (pointwise nat_eq) first (names ++ name ∷ others) differ) in
    ap (λ (same : Bool). same || list_any (pointwise nat_eq name) names) (nat_list_eq_equiv.symm name first ∙ apart) ∙ rest
  where
    among : (names : List (List ℕ)) → AllByRecursion (λ y. pointwise nat_eq first y ≡ false) (names ++ name ∷ others) → pointwise nat_eq first name ≡ false
    among [] h = h.0
    among (n ∷ ns) h = among ns h.1

-- a set of a catalogue is not among those before it, which are fewer than 1,000
pub absent_before : (before : Sets) (named : List ℕ × DataSet) (behind : Sets) → IsCatalogue (before ++ named ∷ behind) → find_set named.0 before ≡ None
absent_before before named behind are =
    let keys = map-append (λ (e : List ℕ × DataSet). e.0) before (named ∷ behind) in
    not_found (find_set named.0 before)
    (any_name named.0 before ∙ none_before (keys_of before) named.0 (keys_of behind) (subst (IsDistinct (pointwise nat_eq)) keys are.0))

pub fewer_before : (before : Sets) (named : List ℕ × DataSet) (behind : Sets) → IsCatalogue (before ++ named ∷ behind) → length before < 1000
fewer_before before named behind are = omega (arith, are.1, length-append before (named ∷ behind))

-- the next of the sets that are left of a catalogue goes behind those before it
pub next_of : (before left : Sets) (named : List ℕ × DataSet) (behind all : Sets) → left ≡ named ∷ behind → before ++ left ≡ all
    → (before ++ named ∷ behind ≡ all) × ((before ++ named ∷ []) ++ behind ≡ all)
next_of before left named behind all next whole =
    let joined = ap (λ (sets : Sets). before ++ sets) (sym next) ∙ whole in
    (joined, append_assoc before (named ∷ []) behind ∙ joined)
