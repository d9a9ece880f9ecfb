-- A stretch of submissions as one deck (own): the operator's table, the data sets as they were, the texts with a fence behind each, `$STOP`.
use Rattle.std.specs.Prelude.{◌≡◌, ℕ, List, [], ◌∷◌, Some, Ok}
use Rattle.std.specs.Str.Lines.{lines}
use Rattle.mon_access.specs.declared.account.Account.{Account}
use Rattle.mon_catalogue.specs.Stored.{IsStored, ArePrintable}
use Rattle.mon_catalogue.specs.Text.{text_of}
use Rattle.scheduler.specs.Marks.{Marks}
use Rattle.deck_syntax.specs.Sections.{deck_of}
use Rattle.deck_driver.specs.declared.options.Options.{Options}
use Rattle.deck_driver.specs.RunStates.{opening}
use Rattle.deck_driver.specs.Printouts.{answer_to}
use Rattle.preflight.specs.Rounds.{Handed, round_lines}
use Rattle.site_plan.specs.Tables.{table_of}
use Rattle.ledger_sets.specs.Applying.{Site, no_site, after_changes}
use Rattle.ledger_sets.specs.Laws.{AreSmall}
use Rattle.ledger_machine.specs.Steps.{text_in, ran_over, changes_over, site_after}

-- ---- the deck

abbrev pub deck_text : Site → List Handed → List ℕ
deck_text site texts = text_of (round_lines (lines site.accounts) site.sets texts)

-- what is written for bytes by a program whose first job has the number behind these. A plain `snomon` begins at 1: `output_of` is this
-- behind none.
abbrev pub output_behind : ℕ → Options → Marks → List ℕ → List ℕ
output_behind jobs options m bytes = answer_to options.check jobs m (opening options.slots.number (deck_of (lines bytes)))

-- ---- the site

-- These changes came to this site; its table gives these accounts, and its data sets can be written.
pub record StandsAt (behind : List (List ℕ)) (site : Site) (accounts : List Account) : Type 0 where
  pub is : after_changes behind no_site ≡ Some site
  pub gives : table_of site.accounts ≡ Ok accounts
  pub stored : IsStored site.sets
  pub printable : ArePrintable site.sets

-- these files, each under its number, are these texts
abbrev pub AreFiles : List (ℕ × List ℕ) → List Handed → Type 0
AreFiles [] [] = Unit {0}
AreFiles [] (text ∷ texts) = ⊥
AreFiles (file ∷ files) [] = ⊥
AreFiles (file ∷ files) (text ∷ texts) = (text_in file.1 ≡ Some text) × AreFiles files texts

-- the site behind texts
abbrev pub site_behind : Site → List Account → List Handed → Site
site_behind site accounts [] = site
site_behind site accounts (text ∷ texts) = site_behind (site_after site accounts text) accounts texts

-- What a text leaves can be written, and so can what it changes: the program that ran it saw to that.
pub record IsWritten (site : Site) (accounts : List Account) (text : Handed) : Type 0 where
  pub stored : IsStored (ran_over site accounts text).after.scheduler.sets
  pub printable : ArePrintable (ran_over site accounts text).after.scheduler.sets
  pub small : AreSmall (changes_over site accounts text)

-- of each of them
abbrev pub AreWritten : Site → List Account → List Handed → Type 0
AreWritten site accounts [] = Unit {0}
AreWritten site accounts (text ∷ texts) = IsWritten site accounts text × AreWritten (site_after site accounts text) accounts texts
