-- Some data sets of a catalogue, from one to the next.
use Rattle.std.proofs.Common.{◌≡◌, ℕ, zero, suc, ◌+◌, ◌≤◌, nat_eq, Bool, true, false, cond, List, [], ◌∷◌, ◌++◌, length, drop, Option, Some, None, is_some, slice_get, if◌then◌else◌, refl, sym, ap, ◌∙◌, subst, arith, append_assoc}
use Rattle.std.specs.{List.{AllByRecursion}, Map.{keys_of}, Cmp.Lexicographic.{pointwise, nat_list_eq_equiv}}
use Rattle.std.proofs.lemmas.{List.{drop_all}, Map.Keys.{IsDistinct-head, IsDistinct-tail, IsDistinct-cons}}
use Rattle.mon_catalogue.specs.{declared.data_set.DataSet.{DataSet}, Sets.{Sets, find_set, NamesDiffer}, Changes.{with_changed}}
use Rattle.ledger_sets.specs.{declared.part.Which.{Which}, declared.part.Which.TheVariants.{All}, Parts.{has, those_of, IsCopied}, Applying.{put_set}}
use Rattle.ledger_sets.proofs.Walking.{at_place, none_left}

abbrev Apart : List ℕ → List (List ℕ) → Type 0
Apart name names = AllByRecursion (λ other. pointwise nat_eq name other ≡ false) names

-- ---- all of them

pub all_of : (sets : Sets) → those_of All sets ≡ sets
all_of [] = refl
all_of (one ∷ sets) = ap (λ (l : Sets). one ∷ l) (all_of sets)

pub none_of : (which : Which) (sets : Sets) (place : ℕ) → length sets ≤ place → those_of which (drop place sets) ≡ []
none_of which sets place end = ap (those_of which) (drop_all place sets end)

-- what holds of all holds of some
pub some_hold : (P : List ℕ × DataSet → Type 0) (which : Which) (sets : Sets) → AllByRecursion P sets → AllByRecursion P (those_of which sets)
some_hold P which [] all = tt
some_hold P which (one ∷ sets) all = by (has which one.0) (some_hold P which sets all.1)
  where
    by : (b : Bool) → AllByRecursion P (those_of which sets) → AllByRecursion P (if b then one ∷ those_of which sets else those_of which sets)
    by true rest = (all.0, rest)
    by false rest = rest

-- ---- no two of some have one name

apart_some : (which : Which) (name : List ℕ) (sets : Sets) → Apart name (keys_of sets) → Apart name (keys_of (those_of which sets))
apart_some which name [] apart = tt
apart_some which name (one ∷ sets) apart = by (has which one.0) (apart_some which name sets apart.1)
  where
    by : (b : Bool) → Apart name (keys_of (those_of which sets)) → Apart name (keys_of (if b then one ∷ those_of which sets else those_of which sets))
    by true rest = (apart.0, rest)
    by false rest = rest

differ_still : (which : Which) (sets : Sets) → NamesDiffer sets → NamesDiffer (those_of which sets)
differ_still which [] differ = differ
differ_still which (one ∷ sets) differ = by (has which one.0) (differ_still which sets (IsDistinct-tail (pointwise nat_eq) one.0 (keys_of sets) differ))
  where
    by : (b : Bool) → NamesDiffer (those_of which sets) → NamesDiffer (if b then one ∷ those_of which sets else those_of which sets)
    by true rest =
        IsDistinct-cons (pointwise nat_eq) one.0 (keys_of (those_of which sets))
        (apart_some which one.0 sets (IsDistinct-head (pointwise nat_eq) one.0 (keys_of sets) differ)) rest
    by false rest = rest

apart_from : (name : List ℕ) (front : Sets) (one : List ℕ × DataSet) (behind : Sets) → Apart name (keys_of (front ++ one ∷ behind)) → pointwise nat_eq name one.0 ≡ false
apart_from name [] one behind apart = apart.0
apart_from name (first ∷ front) one behind apart = apart_from name front one behind apart.1

is_new : (front : Sets) (one : List ℕ × DataSet) (behind : Sets) → NamesDiffer (front ++ one ∷ behind) → find_set one.0 front ≡ None
is_new [] one behind differ = refl
is_new (first ∷ front) one behind differ =
    ap (λ (b : Bool). cond b (Some first.1) (find_set one.0 front))
    (nat_list_eq_equiv.symm one.0 first.0
    ∙ apart_from first.0 front one behind (IsDistinct-head (pointwise nat_eq) first.0 (keys_of (front ++ one ∷ behind)) differ))
    ∙ is_new front one behind (IsDistinct-tail (pointwise nat_eq) first.0 (keys_of (front ++ one ∷ behind)) differ)

-- ---- the one at a place

none_next : (place : ℕ) (sets : Sets) → None ≡ slice_get sets place → drop (suc place) sets ≡ []
none_next place [] none = refl
none_next zero (one ∷ sets) none = cc
none_next (suc place) (one ∷ sets) none = none_next place sets none

none_behind : (place : ℕ) (sets : Sets) → None ≡ slice_get sets place → drop (place + 1) sets ≡ []
none_behind place sets none = ap (λ (n : ℕ). drop n sets) (let next : place + 1 ≡ suc place = omega arith in next) ∙ none_next place sets none

module _ (which : Which) (sets : Sets) (place : ℕ) where
  abbrev behind : Sets
  behind = those_of which (drop (place + 1) sets)

  module _ (one : List ℕ × DataSet) (there : Some one ≡ slice_get sets place) where
    pub is_here : has which one.0 ≡ true → those_of which (drop place sets) ≡ one ∷ behind
    is_here ours = ap (those_of which) (at_place place sets one there) ∙ ap (λ (b : Bool). if b then one ∷ behind else behind) ours

    pub passed : has which one.0 ≡ false → those_of which (drop place sets) ≡ behind
    passed out = ap (those_of which) (at_place place sets one there) ∙ ap (λ (b : Bool). if b then one ∷ behind else behind) out

  pub past : None ≡ slice_get sets place → those_of which (drop place sets) ≡ behind
  past none = ap (those_of which) (none_left place sets none ∙ sym (none_behind place sets none))

  pub stays : (some : Sets) → those_of which (drop place sets) ≡ behind → IsCopied which sets place some → IsCopied which sets (place + 1) some
  stays some same so_far = ap (λ (l : Sets). some ++ l) (sym same) ∙ so_far

  pub taken : (some : Sets) (one : List ℕ × DataSet) → NamesDiffer sets → those_of which (drop place sets) ≡ one ∷ behind → IsCopied which sets place some
      → IsCopied which sets (place + 1) (put_set one.0 one.1 some)
  taken some one differ here so_far =
      ap (λ (l : Sets). l ++ behind) put ∙ append_assoc some (one ∷ []) behind ∙ goes_on
    where
      goes_on : some ++ one ∷ behind ≡ those_of which sets
      goes_on = ap (λ (l : Sets). some ++ l) (sym here) ∙ so_far

      put : put_set one.0 one.1 some ≡ some ++ one ∷ []
      put =
          ap (λ (o : Option DataSet). if is_some o then with_changed one.0 (λ _. one.1) some else some ++ one ∷ [])
          (is_new some one behind (subst NamesDiffer (sym goes_on) (differ_still which sets differ)))
