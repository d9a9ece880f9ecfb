-- Which lines are which card (own).
use Rattle.std.specs.Prelude.{◌≡◌, ℕ, ◌≤◌, List, ◌∷◌, length, Some}
use Rattle.mon_text.specs.Lines.{IsLine, words}
use Rattle.deck_lines.specs.declared.card.Card.{Card}
use Rattle.deck_lines.specs.Cards.{card_of}

-- a line of at most so many characters
abbrev pub IsLineWithin : ℕ → List ℕ → Type 0
IsLineWithin limit line = (length line ≤ limit) × IsLine line

-- the line of a card: its first word names the card, and these words follow
pub record IsCard (limit : ℕ) (card : Card) (others : List (List ℕ)) (line : List ℕ) : Type 0 where
  pub word : List ℕ
  pub line_is : IsLineWithin limit line
  pub words_are : words line ≡ word ∷ others
  pub names_it : card_of word ≡ Some card
