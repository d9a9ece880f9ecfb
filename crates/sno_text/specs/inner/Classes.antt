-- Sets of characters as bits.
use Rattle.std.specs.Prelude.{ℕ, ◌/◌, ◌%◌, ◌≡◌, ◌<◌, Bool, false, List, length, slice_index, slice_index_or, ◌==◌}
use Rattle.std.specs.Int.{bit_at}
use Rattle.sno_text.specs.Sets.{is_one_of}

-- whether the bit of a character is set, counted from the lowest one of the first word
abbrev pub has_bit : List ℕ → ℕ → Bool
has_bit bits c = bit_at (slice_index bits (c / 64)) (c % 64) == 1

-- two words tell of each character whether it is one of a text's
abbrev pub Tells : List ℕ → List ℕ → Type 0
Tells bits characters = (length bits ≡ 2) × ((c : ℕ) → has_bit bits c ≡ is_one_of characters c)

-- a table tells of each character below a number whether it is one of a text's
abbrev pub Lists : List Bool → ℕ → List ℕ → Type 0
Lists table n characters = (length table ≡ 256) × ((c : ℕ) → c < n → slice_index_or table c false ≡ is_one_of characters c)
