-- How many elements stand before the first that passes a test.
use Rattle.std.proofs.Common.{◌≡◌, ℕ, Bool, cond, ◌≤◌, List, length, arith, Some, None, unwrap_or, position, nat_lt, not}
use Rattle.std.{specs.List.{position_or_len}, proofs.lemmas.List.Sums.{prefix_len-le-length}, proofs.lemmas.Bool.Decides.{nat_tests}}

-- the place that a search finds, or the number of elements
unwrapped : (place all : ℕ) → place ≤ all → unwrap_or (cond (nat_lt place all) (Some place) None) all ≡ place
unwrapped place all within = grind (arith, nat_tests)

pub place_from_position : {X : Type 0} (p : X → Bool) (xs : List X) → unwrap_or (position p xs) (length xs) ≡ position_or_len p xs
place_from_position p xs = unwrapped (position_or_len p xs) (length xs) (prefix_len-le-length (λ x. not (p x)) xs)
