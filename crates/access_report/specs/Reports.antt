-- What is reported of the bytes of a deck (own).
use Rattle.std.specs.Prelude.{◌≡◌, ℕ, Bool, false, List, ◌++◌, Option, None, Some, is_none, codes, decimal, if◌then◌else◌}
use Rattle.std.specs.Io.KnownBytes.{Appends}
use Rattle.std.specs.Str.Lines.{lines}
use Rattle.mon_text.specs.declared.stop.Stop.{Stop}
use Rattle.mon_text.specs.declared.stop.Stop.TheVariants as stop
use Rattle.mon_access.specs.declared.account.Account.{Account}
use Rattle.mon_access.specs.Accounts.{find_account}
use Rattle.mon_catalogue.specs.Sets.{Sets, find_set}
use Rattle.access_report.specs.declared.question.Question.{Question}
use Rattle.access_report.specs.declared.front.Refusal.{Refusal}
use Rattle.access_report.specs.declared.fault.Fault.{Fault}
use Rattle.access_report.specs.declared.fault.Fault.TheVariants.{DeckRefused, NoAccount, NoSet, ReadFault, WriteFault, Memory}
use Rattle.access_report.specs.Access.{access_text}
use Rattle.access_report.specs.Fronts.{ReachesStream}
use Rattle.deck_lines.specs.declared.deck_error.DeckError.{DeckError}
use Rattle.deck_lines.specs.Codes.{code_text}

-- a name is asked about, and there is none such
abbrev pub lacks_account : Option (List ℕ) → List Account → Bool
lacks_account None accounts = false
lacks_account (Some name) accounts = is_none (find_account accounts name)

abbrev pub lacks_set : Option (List ℕ) → Sets → Bool
lacks_set None sets = false
lacks_set (Some name) sets = is_none (find_set name sets)

-- what is asked about and is not there
abbrev pub missing : Question → List Account → Sets → Option Fault
missing question accounts sets =
    if lacks_account question.account accounts then Some NoAccount
    else (if lacks_set question.set sets then Some NoSet
    else None)

-- The report of a deck: who may do what, of the accounts and the data sets that stand before its stream. All that is asked
-- about is there.
pub record IsReport (question : Question) (bytes text : List ℕ) : Type 0 where
  pub accounts : List Account
  pub sets : Sets
  pub front : ReachesStream (lines bytes) accounts sets
  pub there : missing question accounts sets ≡ None
  pub is : text ≡ access_text question accounts sets

-- The deck comes to its stream, and what is asked about is not there.
pub record IsMissing (question : Question) (bytes : List ℕ) (fault : Fault) : Type 0 where
  pub accounts : List Account
  pub sets : Sets
  pub front : ReachesStream (lines bytes) accounts sets
  pub lacking : missing question accounts sets ≡ Some fault

-- a text is behind another, and is such a report
abbrev pub Reported : Question → List ℕ → List ℕ → List ℕ → Type 0
Reported question bytes before after = (text : List ℕ) × (after ≡ before ++ text) × IsReport question bytes text

-- the same of a writer, where it tells
abbrev pub ReportedTo : Question → List ℕ → Option (List ℕ) → Option (List ℕ) → Type 0
ReportedTo question bytes before after = (text : List ℕ) × Appends before after text × IsReport question bytes text

-- the fault that a refusal is
abbrev pub fault_of : Stop Refusal → Fault
fault_of (stop.Refused refusal) = DeckRefused refusal.line refusal.code
fault_of stop.Memory = Memory

-- the exit status
abbrev pub status_of : Fault → ℕ
status_of (DeckRefused line code) = 1
status_of NoAccount = 1
status_of NoSet = 1
status_of ReadFault = 3
status_of WriteFault = 3
status_of Memory = 3

-- at which line the deck is refused, and why
abbrev pub refusal_text : ℕ → DeckError → List ℕ
refusal_text line code = codes "line " ++ decimal line ++ codes ": " ++ code_text code

-- what went wrong
abbrev pub fault_text : Fault → List ℕ
fault_text (DeckRefused line code) = refusal_text line code
fault_text NoAccount = codes "no account of that name"
fault_text NoSet = codes "no data set of that name"
fault_text ReadFault = codes "read fault"
fault_text WriteFault = codes "write fault"
fault_text Memory = codes "out of memory"

-- the line of standard error
abbrev pub fault_line : Fault → List ℕ
fault_line fault = codes "listing: " ++ fault_text fault ++ codes "\n"
