-- Parts of the definitions by names of their own.
use Rattle.std.specs.{Prelude.{ℕ, List, Option}, Option.{option_map_or}}
use Rattle.mon_access.specs.declared.account.Account.{Account}
use Rattle.deck_lines.specs.declared.deck_error.DeckError.{DeckError}
use Rattle.deck_syntax.specs.{Decks.{Cards, Deck}, Sections.{refused_on_line, refused_early}}

-- the cards go on, unless line n is refused
abbrev pub goes_on : Option DeckError → ℕ → Cards → Cards
goes_on refusal n rest = option_map_or (refused_on_line n) refusal rest

-- these accounts stand, and the deck goes on, unless its line n is refused
abbrev pub deck_goes_on : Option DeckError → ℕ → List Account → Deck → Deck
deck_goes_on refusal n accounts rest = option_map_or (λ code. refused_early n code accounts) refusal rest
