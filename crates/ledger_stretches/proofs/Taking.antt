-- What ran was taken before.
use Rattle.std.proofs.Common.{◌⊎◌, inl, inr, ℕ, List, [], ◌∷◌, ◌++◌, refl, subst}
use Rattle.std.specs.List.{AllByRecursion}
use Rattle.ledger_laws.specs.Course.{Machine, Record, Took, Refused, Ran, Dropped, Edited, Noted, Kept, behind_first, with_record}
use Rattle.ledger_stretches.specs.{Stretches.{first_of, text_in, texts_in, take_of, takes_of}, Laws.{IsIn, RunsWereTaken}}

in_first : {A : Type 0} (x : A) (xs ys : List A) → IsIn x xs → IsIn x (xs ++ ys)
in_first x [] ys is = absurd is
in_first x (y ∷ xs) ys (inl same) = inl same
in_first x (y ∷ xs) ys (inr is) = inr (in_first x xs ys is)

in_second : {A : Type 0} (x : A) (xs ys : List A) → IsIn x ys → IsIn x (xs ++ ys)
in_second x [] ys is = is
in_second x (y ∷ xs) ys is = inr (in_second x xs ys is)

-- in the one or the other
in_either : {A : Type 0} (x : A) (xs ys : List A) → IsIn x (xs ++ ys) → IsIn x xs ⊎ IsIn x ys
in_either x [] ys is = inr is
in_either x (y ∷ xs) ys (inl same) = inl (inl same)
in_either x (y ∷ xs) ys (inr is) = elim (in_either x xs ys is) [ inl a ↦ inl (inr a) | inr b ↦ inr b ]

-- all that wait are among these
abbrev AreIn : {A : Type 0} → List A → List A → Type 0
AreIn {A} xs all = (x : A) → IsIn x xs → IsIn x all

first_in : {A : Type 0} (x : A) (xs : List A) → IsIn x (first_of xs) → IsIn x xs
first_in x [] is = absurd is
first_in x (y ∷ xs) (inl same) = inl same
first_in x (y ∷ xs) (inr none) = absurd none

rest_in : {A : Type 0} (x : A) (xs : List A) → IsIn x (behind_first xs) → IsIn x xs
rest_in x [] is = absurd is
rest_in x (y ∷ xs) is = inr is

all_in : {A : Type 0} (xs all : List A) → AreIn xs all → AllByRecursion (λ x. IsIn x all) xs
all_in [] all are = tt
all_in (x ∷ xs) all are = (are x (inl refl), all_in xs all (λ y is. are y (inr is)))

module _ {Text Out State Change : Type 0} (machine : Machine Text Out State Change) where
  -- what waits behind a record waited before it, or is taken by it
  waits : (r : Record Text Out Change) (kept : Kept Text Out State) (one : ℕ × Text) → IsIn one (with_record machine r kept).waiting → IsIn one (kept.waiting ++ take_of r)
  waits (Took n text) kept one is = is
  waits (Refused n reply) kept one is = in_first one kept.waiting [] is
  waits (Ran n out change) kept one is = in_first one kept.waiting [] (rest_in one kept.waiting is)
  waits (Dropped n out) kept one is = in_first one kept.waiting [] (rest_in one kept.waiting is)
  waits (Edited change) kept one is = in_first one kept.waiting [] is
  waits Noted kept one is = in_first one kept.waiting [] is

  -- what it says ran waited before it
  ran : (r : Record Text Out Change) (kept : Kept Text Out State) (one : ℕ × Text) → IsIn one (text_in r kept) → IsIn one kept.waiting
  ran (Took n text) kept one is = absurd is
  ran (Refused n reply) kept one is = absurd is
  ran (Ran n out change) kept one is = first_in one kept.waiting is
  ran (Dropped n out) kept one is = absurd is
  ran (Edited change) kept one is = absurd is
  ran Noted kept one is = absurd is

  taken : (records : List (Record Text Out Change)) (kept : Kept Text Out State) (all : List (ℕ × Text)) → AreIn kept.waiting all → AreIn (takes_of records) all
      → AreIn (texts_in machine records kept) all
  taken [] kept all waiting takes one is = absurd is
  taken (r ∷ records) kept all waiting takes one is = elim (in_either one (text_in r kept) (texts_in machine records (with_record machine r kept)) is) [
    | inl here ↦ waiting one (ran r kept one here)
    | inr later ↦
        taken records (with_record machine r kept) all
        (λ other there. elim (in_either other kept.waiting (take_of r) (waits r kept other there)) [
          | inl a ↦ waiting other a
          | inr b ↦ takes other (in_first other (take_of r) (takes_of records) b)
        ])
        (λ other there. takes other (in_second other (take_of r) (takes_of records) there))
        one later
  ]

pub runs_were_taken : {Text Out State Change : Type 0} → RunsWereTaken Text Out State Change
runs_were_taken machine records start none =
    all_in (texts_in machine records start) (takes_of records)
    (taken machine records start (takes_of records) (λ one is. absurd (subst (λ waiting. IsIn one waiting) none is)) (λ one is. is))
