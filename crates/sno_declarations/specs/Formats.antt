-- Formats of records (own): `(nA1)` for n characters a record, 1 to 1,024, and `(1X,nA1)` for a blank and n characters, 1 to 1,023.
use Rattle.std.specs.Prelude.{ℕ, zero, suc, ◌-◌, ◌≤◌, nat_le, nat_eq, Bool, true, false, ◌&&◌, List, [], ◌∷◌, length, take, drop, map, codes, Option, Some, None, if◌then◌else◌}
use Rattle.std.specs.List.{list_all, onto_first}
use Rattle.std.specs.Option.{option_map, option_and_then, option_map_or}
use Rattle.std.specs.Cmp.Lexicographic.{pointwise}
use Rattle.mon_text.specs.Characters.{is_digit}
use Rattle.mon_text.specs.Counts.{value_of}

-- how texts are cut into records: so many characters of a text in each, behind a blank or not
pub record RecordFormat : Type 0 where
  pub characters : ℕ
  pub blank : Bool

-- a record has at most 1,024 characters
abbrev pub most_characters : Bool → ℕ
most_characters blank = if blank then 1023 else 1024

abbrev pub IsFormat : RecordFormat → Type 0
IsFormat format = (1 ≤ format.characters) × (format.characters ≤ most_characters format.blank)

-- the number that digits stand for, if it is from 1 to so many
abbrev pub number_to : ℕ → List ℕ → Option ℕ
number_to most text = if list_all is_digit text && nat_le 1 (value_of text) && nat_le (value_of text) most then Some (value_of text) else None

-- what stands behind a text at the front
abbrev pub behind : List ℕ → List ℕ → Option (List ℕ)
behind front text = if pointwise nat_eq (take (length front) text) front then Some (drop (length front) text) else None

-- the number before `A1)`
abbrev pub characters_in : ℕ → List ℕ → Option ℕ
characters_in most text = let kept = length text - 3 in if pointwise nat_eq (drop kept text) (codes "A1)") then number_to most (take kept text) else None

-- the format that what stands before `nA1)` begins
abbrev pub with_characters : Bool → List ℕ → Option RecordFormat
with_characters blank rest = option_map (λ n. record { characters = n; blank = blank }) (characters_in (most_characters blank) rest)

abbrev pub format_of : List ℕ → Option RecordFormat
format_of text =
    option_map_or (with_characters true) (behind (codes "(1X,") text) (option_and_then (with_characters false) (behind (codes "(") text))

-- a text cut into pieces of n characters, of which so many may still go into the first one; no text is one piece without characters
abbrev pub pieces : ℕ → ℕ → List ℕ → List (List ℕ)
pieces n left [] = [] ∷ []
pieces n zero (c ∷ cs) = [] ∷ onto_first c (pieces n (n - 1) cs)
pieces n (suc left) (c ∷ cs) = onto_first c (pieces n left cs)

-- a piece as a record
abbrev pub laid_out : RecordFormat → List ℕ → List ℕ
laid_out format piece = if format.blank then 32 ∷ piece else piece

-- the records of a text: there is at least one
abbrev pub records : RecordFormat → List ℕ → List (List ℕ)
records format text = map (laid_out format) (pieces format.characters format.characters text)
