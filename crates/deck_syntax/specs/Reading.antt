-- What is still to come of a deck from where a reader stands in it (own): the lines from number n on are read as by its sections.
use Rattle.std.specs.Prelude.{◌≡◌, ℕ, true, List, [], Option, Some, None}
use Rattle.mon_access.specs.declared.account.Account.{Account}
use Rattle.mon_catalogue.specs.Progress.{lines_taken, is_due}
use Rattle.deck_syntax.specs.Decks.{Deck}
use Rattle.deck_syntax.specs.declared.front_reader.Front.{Front}
use Rattle.deck_syntax.specs.declared.front_reader.FrontReader.{FrontReader}
use Rattle.deck_syntax.specs.declared.front_reader.FrontReader.TheVariants as front
use Rattle.deck_syntax.specs.Sections.{Closed, opening_section, accounts_section, catalogue_section, stream_section, sets_of}

-- the deck that the lines make
abbrev pub deck_ahead : FrontReader → ℕ → List (List ℕ) → Deck
deck_ahead front.Opening n ls = opening_section n ls
deck_ahead (front.Accounts accounts) n ls = accounts_section n accounts ls
deck_ahead (front.Catalogue accounts progress) n ls = catalogue_section n accounts progress ls

-- where the front is whole the lines are those of its stream; else the reader goes on
abbrev pub deck_behind : FrontReader → Option Front → ℕ → List (List ℕ) → Deck
deck_behind r (Some whole) n ls = record { accounts = whole.accounts; catalogue = whole.catalogue; cards = stream_section n Closed ls }
deck_behind r None n ls = deck_ahead r n ls

-- the accounts that were read
abbrev pub accounts_read : FrontReader → List Account
accounts_read front.Opening = []
accounts_read (front.Accounts accounts) = accounts
accounts_read (front.Catalogue accounts progress) = accounts

-- how many lines of the catalogue were taken
abbrev pub lines_read : FrontReader → ℕ
lines_read (front.Catalogue accounts progress) = lines_taken progress
lines_read _ = 0

-- the catalogue is whole, if it is read
abbrev pub MayOpen : FrontReader → Type 0
MayOpen (front.Catalogue accounts progress) = is_due progress ≡ true
MayOpen _ = Unit {0}

-- the deck where the stream begins
abbrev pub deck_opened : FrontReader → ℕ → List (List ℕ) → Deck
deck_opened (front.Catalogue accounts progress) n ls = record { accounts = accounts; catalogue = sets_of progress; cards = stream_section n Closed ls }
deck_opened r n ls = deck_ahead r n ls
