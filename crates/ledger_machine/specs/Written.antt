-- What a file's text leaves and changes can be written (own): whoever runs it sees to that.
use Rattle.std.specs.Prelude.{◌≡◌, ℕ, List, [], Some}
use Rattle.mon_catalogue.specs.Sets.{Sets}
use Rattle.mon_access.specs.declared.account.Account.{Account}
use Rattle.deck_syntax.specs.Decks.{Asked}
use Rattle.preflight.specs.Rounds.{Handed}
use Rattle.ledger_sets.specs.Applying.{Site, no_site, with_sets, with_jobs, after_changes}
use Rattle.ledger_machine.specs.Steps.{text_in, accounts_of}
use Rattle.ledger_machine.specs.Decks.{IsWritten}

-- of a text that asks for this
abbrev pub IsWrittenAsked : Site → List Account → List Asked → Type 0
IsWrittenAsked site accounts asked = IsWritten site accounts (record { own = []; lines = []; asked = asked })

-- of this file's
pub record LeavesWritten (file : List ℕ) (site : Site) : Type 0 where
  pub written : (accounts : List Account) (text : Handed) → accounts_of site ≡ Some accounts → text_in file ≡ Some text → IsWritten site accounts text

-- and of this file's, over whatever site these changes came to
pub record LeavesWrittenBehind (file : List ℕ) (behind : List (List ℕ)) : Type 0 where
  pub leaves : (site : Site) → after_changes behind no_site ≡ Some site → LeavesWritten file site

-- a site as it is behind so many jobs, with these data sets
abbrev pub site_over : Site → ℕ → Sets → Site
site_over site jobs sets = with_jobs (with_sets site sets) jobs
