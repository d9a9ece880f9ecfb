-- Whose data sets there are behind the cards of commands (own): their names in the order of the catalogue, each with its owner.
use Rattle.std.specs.Prelude.{ℕ, nat_lt, nat_eq, Bool, false, not, ◌&&◌, List, [], ◌∷◌, ◌++◌, length, Option, None, Some, is_some, if◌then◌else◌}
use Rattle.std.specs.Map.{lookup, remove_entry}
use Rattle.std.specs.Cmp.Lexicographic.{pointwise}

abbrev pub Owned : Type 0
Owned = List (List ℕ × List ℕ)

abbrev pub owner_of : List ℕ → Owned → Option (List ℕ)
owner_of name owned = lookup (pointwise nat_eq name) owned

abbrev pub is_owner : List ℕ → Option (List ℕ) → Bool
is_owner account None = false
is_owner account (Some owner) = pointwise nat_eq owner account

-- no data set has the name, and there are fewer than 1,000
abbrev pub may_be_created : List ℕ → Owned → Bool
may_be_created name owned = not (is_some (owner_of name owned)) && nat_lt (length owned) 1000

-- a data set more, the last, unless its name is taken or there are 1,000
abbrev pub created : List ℕ → List ℕ → Owned → Owned
created account name owned = if may_be_created name owned then owned ++ (name, account) ∷ [] else owned

-- the data set is gone, if it is the account's
abbrev pub deleted : List ℕ → List ℕ → Owned → Owned
deleted account name owned = if is_owner account (owner_of name owned) then remove_entry (pointwise nat_eq name) owned else owned
