-- Lines one behind the other in one piece of memory, each with the LF that it is printed with, and where each ends.
use Rattle.std.specs.Prelude.{◌≡◌, ℕ, ◌+◌, ◌-◌, ◌<◌, ◌≤◌, List, [], ◌∷◌, ◌++◌, length, map, slice_index_or, take}
use Rattle.std.specs.List.{AllByRecursion, flat_map, range_with_len, slice_range}
use Rattle.mon_text.specs.Lines.{IsLine}

-- the pieces of a text, each of which begins where the one before it ends, without the LF at their ends
abbrev pub pieces : List ℕ → List ℕ → List (List ℕ)
pieces ends bytes = map (λ i. slice_range bytes (slice_index_or (0 ∷ ends) i 0) (slice_index_or ends i 0 - 1)) (range_with_len 0 (length ends))

-- lines as they are printed
abbrev pub printed : List (List ℕ) → List ℕ
printed lines = flat_map (λ line. line ++ 10 ∷ []) lines

-- where lines end of which the first begins at a place
abbrev pub ends_of : ℕ → List (List ℕ) → List ℕ
ends_of from [] = []
ends_of from (line ∷ lines) = (from + length line + 1) ∷ ends_of (from + length line + 1) lines

-- where a line begins
abbrev pub start_of : ℕ → List (List ℕ) → ℕ
start_of n lines = length (printed (take n lines))

-- these lines are packed so; from where any begins there is room for 1,024 characters and LF
pub record IsPacked (capacity : ℕ) (ends bytes : List ℕ) (lines : List (List ℕ)) : Type 0 where
  pub joined : bytes ≡ printed lines
  pub ended : ends ≡ ends_of 0 lines
  pub printable : AllByRecursion IsLine lines
  pub room : (n : ℕ) → n < length lines → start_of n lines + 1025 ≤ capacity
