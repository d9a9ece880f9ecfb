-- From one data set to the next.
use Rattle.std.proofs.Common.{◌≡◌, ℕ, zero, suc, ◌+◌, ◌≤◌, ◌<◌, nat_eq, Bool, true, false, List, [], ◌∷◌, ◌++◌, length, map, drop, Some, None, slice_get, refl, sym, ap, ◌∙◌, arith, append_assoc, ◌⊎◌, inl, inr, nat_le}
use Rattle.std.specs.{Prelude.{if◌then◌else◌, min}, List.{common_prefix_len}, Cmp.Lexicographic.{pointwise}}
use Rattle.std.proofs.{Math.Nat.{min-eq_left, min-eq_right}, lemmas.Bool.Decides.{nat_tests}, lemmas.List.{map-append, drop_all}}
use Rattle.std.proofs.lemmas.Option.{slice_get_cases}
use Rattle.mon_catalogue.specs.{declared.data_set.DataSet.{DataSet}, Sets.{Sets}}
use Rattle.ledger_text.specs.Records.{Said}
use Rattle.ledger_sets.specs.{Changes.{whole, gone, changed, changes_between, said_text}, Writing.{said_texts}}

there : {A : Type 0} (i : ℕ) (xs : List A) (x : A) → Some x ≡ slice_get xs i → drop i xs ≡ x ∷ drop (suc i) xs
there zero [] x is = cc
there (suc i) [] x is = cc
there zero (y ∷ ys) x is = cc
there (suc i) (y ∷ ys) x is = there i ys x is

-- the one at a place, and those behind it
pub at_place : {A : Type 0} (i : ℕ) (xs : List A) (x : A) → Some x ≡ slice_get xs i → drop i xs ≡ x ∷ drop (i + 1) xs
at_place i xs x is = there i xs x is ∙ ap (λ (n : ℕ). x ∷ drop n xs) (let next : suc i ≡ i + 1 = omega arith in next)

pub none_left : {A : Type 0} (i : ℕ) (xs : List A) → None ≡ slice_get xs i → drop i xs ≡ []
none_left zero [] is = refl
none_left (suc i) [] is = refl
none_left zero (y ∷ ys) is = cc
none_left (suc i) (y ∷ ys) is = none_left i ys is

-- not within
pub none_past : {A : Type 0} (i : ℕ) (xs : List A) → i < length xs → None ≡ slice_get xs i → ⊥
none_past i xs inside none =
    elim (slice_get_cases xs i).1 [
      | inl w ↦ let both : None ≡ Some w.0 = none ∙ w.2 in cc
      | inr w ↦ absurd (omega arith)
    ]

texts_behind : (xs ys : List Said) → said_texts (xs ++ ys) ≡ said_texts xs ++ said_texts ys
texts_behind xs ys = map-append said_text xs ys

module _ (here behind after : Sets) (met : ℕ) (old : List ℕ × DataSet) (out now : List (List ℕ)) (begins : here ≡ old ∷ behind) where
  pub met_again : (new : List ℕ × DataSet) → Some new ≡ slice_get after met → pointwise nat_eq old.0 new.0 ≡ true → now ≡ out ++ said_texts (changed old.0 old.1 new.1)
      → out ++ said_texts (changes_between here (drop met after)) ≡ now ++ said_texts (changes_between behind (drop (met + 1) after))
  met_again new stands same is =
      ap (λ (l : Sets). out ++ said_texts (changes_between l (drop met after))) begins
      ∙ ap (λ (l : Sets). out ++ said_texts (changes_between (old ∷ behind) l)) (at_place met after new stands)
      ∙ ap (λ (b : Bool). out ++ said_texts (if b then changed old.0 old.1 new.1 ++ changes_between behind (drop (met + 1) after) else gone old ∷ changes_between behind (new ∷ drop (met + 1) after))) same
      ∙ ap (λ (l : List (List ℕ)). out ++ l) (texts_behind (changed old.0 old.1 new.1) (changes_between behind (drop (met + 1) after)))
      ∙ sym (append_assoc out (said_texts (changed old.0 old.1 new.1)) (said_texts (changes_between behind (drop (met + 1) after))))
      ∙ ap (λ (l : List (List ℕ)). l ++ said_texts (changes_between behind (drop (met + 1) after))) (sym is)

  pub gone_before : (new : List ℕ × DataSet) → Some new ≡ slice_get after met → pointwise nat_eq old.0 new.0 ≡ false → now ≡ out ++ said_text (gone old) ∷ []
      → out ++ said_texts (changes_between here (drop met after)) ≡ now ++ said_texts (changes_between behind (drop met after))
  gone_before new stands apart is =
      ap (λ (l : Sets). out ++ said_texts (changes_between l (drop met after))) begins
      ∙ ap (λ (l : Sets). out ++ said_texts (changes_between (old ∷ behind) l)) (at_place met after new stands)
      ∙ ap (λ (b : Bool). out ++ said_texts (if b then changed old.0 old.1 new.1 ++ changes_between behind (drop (met + 1) after) else gone old ∷ changes_between behind (new ∷ drop (met + 1) after))) apart
      ∙ ap (λ (l : Sets). out ++ said_text (gone old) ∷ said_texts (changes_between behind l)) (sym (at_place met after new stands))
      ∙ sym (append_assoc out (said_text (gone old) ∷ []) (said_texts (changes_between behind (drop met after))))
      ∙ ap (λ (l : List (List ℕ)). l ++ said_texts (changes_between behind (drop met after))) (sym is)

  pub gone_last : None ≡ slice_get after met → now ≡ out ++ said_text (gone old) ∷ []
      → out ++ said_texts (changes_between here (drop met after)) ≡ now ++ said_texts (changes_between behind (drop met after))
  gone_last none is =
      ap (λ (l : Sets). out ++ said_texts (changes_between l (drop met after))) begins
      ∙ ap (λ (l : Sets). out ++ said_texts (changes_between (old ∷ behind) l)) (none_left met after none)
      ∙ ap (λ (l : Sets). out ++ said_text (gone old) ∷ said_texts (changes_between behind l)) (sym (none_left met after none))
      ∙ sym (append_assoc out (said_text (gone old) ∷ []) (said_texts (changes_between behind (drop met after))))
      ∙ ap (λ (l : List (List ℕ)). l ++ said_texts (changes_between behind (drop met after))) (sym is)

-- none is left
pub all_met : (after : Sets) (met : ℕ) (left : Sets) → left ≡ [] → said_texts (changes_between left (drop met after)) ≡ said_texts (map whole (drop met after))
all_met after met left none = ap (λ (l : Sets). said_texts (changes_between l (drop met after))) none

pub all_new : (after : Sets) (place : ℕ) → length after ≤ place → said_texts (map whole (drop place after)) ≡ []
all_new after place end = ap (λ (l : Sets). said_texts (map whole l)) (drop_all place after end)

-- a new one
pub one_new : (after : Sets) (place : ℕ) (new : List ℕ × DataSet) (out now : List (List ℕ)) → Some new ≡ slice_get after place → now ≡ out ++ said_text (whole new) ∷ []
    → now ++ said_texts (map whole (drop (place + 1) after)) ≡ out ++ said_texts (map whole (drop place after))
one_new after place new out now stands is =
    ap (λ (l : List (List ℕ)). l ++ said_texts (map whole (drop (place + 1) after))) is
    ∙ append_assoc out (said_text (whole new) ∷ []) (said_texts (map whole (drop (place + 1) after)))
    ∙ ap (λ (l : Sets). out ++ said_texts (map whole l)) (sym (at_place place after new stands))

-- ---- records

pub none_shared : (was is : List (List ℕ)) (i : ℕ) → length was ≤ i → common_prefix_len (pointwise nat_eq) (drop i was) (drop i is) ≡ 0
none_shared was is i end = ap (λ (l : List (List ℕ)). common_prefix_len (pointwise nat_eq) l (drop i is)) (drop_all i was end)

empty_shares : (xs : List (List ℕ)) → common_prefix_len (pointwise nat_eq) xs [] ≡ 0
empty_shares [] = refl
empty_shares (x ∷ xs) = refl

pub none_shared_there : (was is : List (List ℕ)) (i : ℕ) → length is ≤ i → common_prefix_len (pointwise nat_eq) (drop i was) (drop i is) ≡ 0
none_shared_there was is i end = ap (λ (l : List (List ℕ)). common_prefix_len (pointwise nat_eq) (drop i was) l) (drop_all i is end) ∙ empty_shares (drop i was)

-- where one of the two is at its end, no more are
pub all_shared : (was is : List (List ℕ)) (i : ℕ) → (i ≡ length was) ⊎ (i ≡ length is)
    → common_prefix_len (pointwise nat_eq) was is ≡ i + common_prefix_len (pointwise nat_eq) (drop i was) (drop i is) → i ≡ common_prefix_len (pointwise nat_eq) was is
all_shared was is i (inl end) so_far = let none = none_shared was is i (omega (arith, end)) in omega (arith, none, so_far)
all_shared was is i (inr end) so_far = let none = none_shared_there was is i (omega (arith, end)) in omega (arith, none, so_far)

pub either_end : (a b most i : ℕ) → most ≡ min a b → i ≡ most → (i ≡ a) ⊎ (i ≡ b)
either_end a b most i least end = by (nat_le a b) refl
  where
    by : (t : Bool) → nat_le a b ≡ t → (i ≡ a) ⊎ (i ≡ b)
    by true e = inl (let le : a ≤ b = grind (arith, nat_tests, e) in end ∙ least ∙ min-eq_left le)
    by false e = inr (let le : b ≤ a = grind (arith, nat_tests, e) in end ∙ least ∙ min-eq_right le)
