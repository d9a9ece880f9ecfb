-- The first place of a kind of entry.
use Rattle.std.proofs.Common.{◌≡◌, ℕ, Bool, true, false, List, [], ◌∷◌, length, None, Some, position, nat_lt, refl, arith, ◌∙◌}
use Rattle.std.{specs.List.{list_any, position_or_len}, proofs.lemmas.Bool.Decides.{nat_tests}}

-- an element passes exactly where the first place lies within the list
pub list_any_by_place : {X : Type 0} (p : X → Bool) (xs : List X) → list_any p xs ≡ nat_lt (position_or_len p xs) (length xs)
list_any_by_place p [] = refl
list_any_by_place p (x ∷ xs) = by (p x) refl (list_any_by_place p xs)
  where
    by : (b : Bool) → p x ≡ b → list_any p xs ≡ nat_lt (position_or_len p xs) (length xs)
        → list_any p (x ∷ xs) ≡ nat_lt (position_or_len p (x ∷ xs)) (length (x ∷ xs))
    by true e rest = rw e (grind (arith, nat_tests))
    by false e rest = rw e (grind (arith, nat_tests))

-- so a search tells whether there is one, and where
pub position-Some : {X : Type 0} (p : X → Bool) (xs : List X) (i : ℕ) → Some i ≡ position p xs → (list_any p xs ≡ true) × (i ≡ position_or_len p xs)
position-Some p xs i = by (nat_lt (position_or_len p xs) (length xs)) refl
  where
    by : (b : Bool) → nat_lt (position_or_len p xs) (length xs) ≡ b → Some i ≡ position p xs → (list_any p xs ≡ true) × (i ≡ position_or_len p xs)
    by true e h = let at : Some i ≡ Some (position_or_len p xs) = rw e at h in (list_any_by_place p xs ∙ e, cc)
    by false e h = let none : Some i ≡ None = rw e at h in cc

pub position-None : {X : Type 0} (p : X → Bool) (xs : List X) → None ≡ position p xs → list_any p xs ≡ false
position-None p xs = by (nat_lt (position_or_len p xs) (length xs)) refl
  where
    by : (b : Bool) → nat_lt (position_or_len p xs) (length xs) ≡ b → None ≡ position p xs → list_any p xs ≡ false
    by true e h = let some : None ≡ Some (position_or_len p xs) = rw e at h in cc
    by false e h = list_any_by_place p xs ∙ e

pub ruleset places = (position-Some, position-None)
