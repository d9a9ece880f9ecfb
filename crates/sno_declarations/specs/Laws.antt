-- Laws of records.
use Rattle.std.specs.Prelude.{◌≡◌, ◌≤◌, ℕ, nat_le, List, [], ◌∷◌, length, take, drop, All, if◌then◌else◌}
use Rattle.sno_declarations.specs.Formats.{RecordFormat, IsFormat, laid_out, records}

-- the first record has the first characters of the text, and the others are those of what is left, if anything is
abbrev pub RecordsFollow : Type 0
RecordsFollow =
    (format : RecordFormat) (text : List ℕ) → IsFormat format
    → records format text ≡ laid_out format (take format.characters text)
    ∷ (if nat_le (length text) format.characters then [] else records format (drop format.characters text))

-- and none is longer than 1,024 characters
abbrev pub RecordsFit : Type 0
RecordsFit = (format : RecordFormat) (text : List ℕ) → IsFormat format → All (λ line. length line ≤ 1024) (records format text)
