-- How a name lies in its array: its characters, none of them 0, and zeros behind them.
use Rattle.std.specs.Prelude.{◌≡◌, ℕ, ◌≤◌, List, slice_index}

-- nothing but zeros from an offset on
abbrev pub IsZeroFrom : ℕ → List ℕ → Type 0
IsZeroFrom n characters = (k : ℕ) → n ≤ k → slice_index characters k ≡ 0
