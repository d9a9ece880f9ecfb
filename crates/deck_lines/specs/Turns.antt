-- The card that gives turns (own): a slot, and how many turns it is given.
use Rattle.std.specs.Prelude.{ℕ, ◌==◌, ◌&&◌, Bool, nat_le, List, length, Option}
use Rattle.mon_text.specs.Counts.{is_count, value_of}
use Rattle.deck_lines.specs.declared.deck_error.DeckError.{DeckError}
use Rattle.deck_lines.specs.declared.deck_error.DeckError.TheVariants.{BadNumber, BadCard}
use Rattle.deck_lines.specs.declared.turn.Turn.{Turn}
use Rattle.deck_lines.specs.Cards.{word_at}
use Rattle.deck_lines.specs.Refusing.{unless}
use Rattle.std.specs.Option.{option_or}

-- from 1 to so many
abbrev pub is_within : ℕ → ℕ → Bool
is_within most n = nat_le 1 n && nat_le n most

abbrev pub turn_refusal : List (List ℕ) → Option DeckError
turn_refusal ws =
    option_or (unless (length ws == 3) BadCard)
    (option_or (unless (is_count (word_at 1 ws) && is_count (word_at 2 ws)) BadNumber)
    (unless (is_within 8 (value_of (word_at 1 ws)) && is_within 1000000 (value_of (word_at 2 ws))) BadCard))

abbrev pub turn_on : List (List ℕ) → Turn
turn_on ws = record { slot = value_of (word_at 1 ws); count = value_of (word_at 2 ws) }
