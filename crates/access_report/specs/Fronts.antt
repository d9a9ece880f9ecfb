-- A deck up to its stream (own): its accounts and its data sets, or the line before the stream at which it is refused.
use Rattle.std.specs.Prelude.{◌≡◌, ℕ, List}
use Rattle.mon_text.specs.declared.stop.Stop.{Stop}
use Rattle.mon_text.specs.declared.stop.Stop.TheVariants as stop
use Rattle.mon_access.specs.declared.account.Account.{Account}
use Rattle.mon_catalogue.specs.Sets.{Sets}
use Rattle.deck_lines.specs.declared.deck_error.DeckError.{DeckError}
use Rattle.deck_syntax.specs.Decks.{Deck}
use Rattle.deck_syntax.specs.Sections.{Closed, deck_of, stream_section, refused_early}
use Rattle.access_report.specs.declared.front.Refusal.{Refusal}

-- a deck of these accounts and data sets, whose stream begins at line n
abbrev pub streaming : List Account → Sets → ℕ → List (List ℕ) → Deck
streaming accounts sets n ls = record { accounts = accounts; catalogue = sets; cards = stream_section n Closed ls }

-- the deck of these lines has these accounts and data sets, and then comes to its stream
abbrev pub ReachesStream : List (List ℕ) → List Account → Sets → Type 0
ReachesStream ls accounts sets = (n : ℕ) × (rest : List (List ℕ)) × (deck_of ls ≡ streaming accounts sets n rest)

-- the deck of these lines is refused before its stream, at line n
abbrev pub IsRefusedEarly : List (List ℕ) → ℕ → DeckError → Type 0
IsRefusedEarly ls n code = (accounts : List Account) × (deck_of ls ≡ refused_early n code accounts)

-- a refusal of line n, or want of memory
abbrev pub refusal_at : ℕ → Stop DeckError → Stop Refusal
refusal_at n (stop.Refused code) = stop.Refused (record { line = n; code = code })
refusal_at n stop.Memory = stop.Memory
