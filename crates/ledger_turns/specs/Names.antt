-- The names in a box, in the order of their bytes, and the first so many of them (own).
use Rattle.std.specs.Prelude.{◌≡◌, ℕ, ◌+◌, Bool, false, List, [], ◌∷◌, take, if◌then◌else◌, IsPermutation}
use Rattle.std.specs.List.{fold}
use Rattle.std.specs.Ordering.{is_lt, nat_cmp}
use Rattle.std.specs.Cmp.Lexicographic.{slice_cmp}

-- one name stands before another: by the first byte in which they differ, or as its beginning
abbrev pub is_before : List ℕ → List ℕ → Bool
is_before a b = is_lt (slice_cmp nat_cmp a b)

-- a name more among names in their order
abbrev pub with_name : List ℕ → List (List ℕ) → List (List ℕ)
with_name name [] = name ∷ []
with_name name (other ∷ others) = if is_before name other then name ∷ other ∷ others else other ∷ with_name name others

-- names in their order
abbrev pub in_order : List (List ℕ) → List (List ℕ)
in_order names = fold (λ (kept : List (List ℕ)) (name : List ℕ). with_name name kept) [] names

-- the first so many
abbrev pub first_names : ℕ → List (List ℕ) → List (List ℕ)
first_names most names = take most (in_order names)

-- one name more, of which only the first so many are kept
abbrev pub kept_with : ℕ → List (List ℕ) → List ℕ → List (List ℕ)
kept_with most kept name = take most (with_name name kept)

-- how many of these names come before the first that this one stands before, counted from a number on
abbrev pub place_from : {X : Type 0} → (X → List ℕ) → ℕ → List ℕ → List X → ℕ
place_from name_of n name [] = n
place_from name_of n name (other ∷ others) = if is_before name (name_of other) then n else place_from name_of (n + 1) name others

-- ---- laws

-- however many come, the first of them are kept
abbrev pub KeepsFirst : Type 0
KeepsFirst = (most : ℕ) (names : List (List ℕ)) → fold (kept_with most) [] names ≡ first_names most names

-- no name stands behind one before which it belongs
abbrev pub AreInOrder : List (List ℕ) → Type 0
AreInOrder [] = Unit {0}
AreInOrder (name ∷ []) = Unit {0}
AreInOrder (name ∷ next ∷ names) = (is_before next name ≡ false) × AreInOrder (next ∷ names)

abbrev pub FirstAreFirst : Type 0
FirstAreFirst = (names : List (List ℕ)) → IsPermutation names (in_order names) × AreInOrder (in_order names)
