-- How refusals are told (own): the first of several, and those that any line may have.
use Rattle.std.specs.Prelude.{ℕ, ◌==◌, Bool, true, false, nat_lt, List, [], ◌∷◌, length, Option, Some, None, is_some, if◌then◌else◌}
use Rattle.mon_text.specs.Lines.{is_line}
use Rattle.deck_lines.specs.declared.card.Card.{Card}
use Rattle.deck_lines.specs.declared.deck_error.DeckError.{DeckError}
use Rattle.deck_lines.specs.declared.deck_error.DeckError.TheVariants.{BadCharacter, LineTooLong, UnknownCard, BadCard, OutOfPlace}
use Rattle.deck_lines.specs.Cards.{card_among, is_card}
use Rattle.std.specs.Option.{option_or}
use Rattle.mon_text.specs.Beginnings.{first_passes}

-- refused where the test fails
abbrev pub unless : Bool → DeckError → Option DeckError
unless holds code = elim holds [ true ↦ None | false ↦ Some code ]

-- what is tried on each line before anything else: its length, and then its characters
abbrev pub line_refusal : ℕ → List ℕ → Option DeckError
line_refusal limit line = if nat_lt limit (length line) then Some LineTooLong else unless (is_line line) BadCharacter

-- the words of a line that has to be this card, with words behind it that fit: another card, known or not, is refused first
abbrev pub due_card_refusal : Card → Bool → List (List ℕ) → Option DeckError
due_card_refusal due fits ws =
    option_or (unless (is_some (card_among ws)) UnknownCard)
    (option_or (unless (is_card due (card_among ws)) OutOfPlace)
    (unless fits BadCard))

-- refused with a further word
abbrev pub further_refusal : List (List ℕ) → Option DeckError
further_refusal ws = unless (length ws == 1) BadCard

-- with no further word
abbrev pub lone_card_refusal : Card → List (List ℕ) → Option DeckError
lone_card_refusal due ws = due_card_refusal due (length ws == 1) ws

-- a line that begins with a dollar sign
abbrev pub is_dollar_line : List ℕ → Bool
is_dollar_line line = first_passes (λ c. c == 36) line
