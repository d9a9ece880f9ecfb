-- What holds of every program that is read, in words of its own.
use Rattle.std.specs.Prelude.{◌≡◌, ℕ, ◌-◌, ◌≤◌, Bool, true, not, ◌&&◌, List, [], ◌∷◌, ◌++◌, Option, Some, None, Ok, slice_get, option_and_then, if◌then◌else◌}
use Rattle.std.specs.List.{All}
use Rattle.sno_cards.specs.declared.refusal.Place.{Place}
use Rattle.sno_cards.specs.Texts.{Placed}
use Rattle.sno_cards.specs.Cards.{kind_of, is_continuation, is_semicolon}
use Rattle.sno_cards.specs.Programs.{ProgramText}
use Rattle.sno_cards.specs.Statements.{without_mark, literal_after, ends_statement, pieces, statements_of}

-- PLACES

-- a card as it is read: the mark of a continuation as a blank
abbrev pub as_read : List ℕ → List ℕ
as_read line = if is_continuation (kind_of line) then without_mark line else line

-- the character that is read at a place, if there is one
abbrev pub character_at : List (List ℕ) → Place → Option ℕ
character_at lines place = option_and_then (λ line. slice_get (as_read line) (place.column - 1)) (slice_get lines (place.card - 1))

-- a character is the one that is read at its place
pub record StandsThere (lines : List (List ℕ)) (c : Placed) : Type 0 where
  pub card : 1 ≤ c.place.card
  pub column : 1 ≤ c.place.column
  pub read : character_at lines c.place ≡ Some c.code

-- each character of a statement, and of what stands on the END line, is the one that is read at its place
abbrev pub PlacesAreTrue : Type 0
PlacesAreTrue = (lines : List (List ℕ)) (program : ProgramText) → statements_of lines ≡ Ok program
    → All (λ statement. All (StandsThere lines) statement) program.statements × All (StandsThere lines) program.end_rest

-- STATEMENTS OF A LINE

-- no `;` stands outside literals, the first of which may have begun before
abbrev pub is_whole : Option ℕ → List Placed → Bool
is_whole literal [] = true
is_whole literal (c ∷ cs) = not (ends_statement literal c.code) && is_whole (literal_after literal c.code) cs

-- the literal that is open after some characters
abbrev pub literal_at_end : Option ℕ → List Placed → Option ℕ
literal_at_end literal [] = literal
literal_at_end literal (c ∷ cs) = literal_at_end (literal_after literal c.code) cs

-- A line is cut into pieces: they are the line, but for a `;` after each but the last; none has another `;` outside
-- literals; and no `;` between two of them stands in a literal.
abbrev pub IsCut : Option ℕ → List (List Placed) → List Placed → Type 0
IsCut literal [] line = ⊥
IsCut literal (piece ∷ []) line = (line ≡ piece) × (is_whole literal piece ≡ true)
IsCut literal (piece ∷ next ∷ others) line = (c : Placed) × (rest : List Placed) × (line ≡ piece ++ c ∷ rest) × (is_semicolon c.code ≡ true)
    × (is_whole literal piece ≡ true) × (literal_at_end literal piece ≡ None) × IsCut None (next ∷ others) rest

-- every line is cut into its pieces, and into no others
abbrev pub OneCut : Type 0
OneCut = (line : List Placed) → IsCut None (pieces None line) line × ((others : List (List Placed)) → IsCut None others line → others ≡ pieces None line)
