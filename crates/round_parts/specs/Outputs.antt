-- What the parts of a round write (own): each the printouts and the audits of its texts, by their places in the round, and the data sets
-- that it leaves, by their names.
use Rattle.std.specs.Prelude.{◌≡◌, ℕ, List, map}
use Rattle.mon_access.specs.declared.account.Account.{Account}
use Rattle.mon_catalogue.specs.declared.data_set.DataSet.{DataSet}
use Rattle.mon_catalogue.specs.Sets.{Sets}
use Rattle.mon_catalogue.specs.Text.{set_lines, text_of}
use Rattle.scheduler.specs.Marks.{Marks}
use Rattle.mon_monitor.specs.Printouts.{printouts_text}
use Rattle.preflight.specs.Rounds.{Handed}
use Rattle.parts_laws.specs.Runs.{Ran, Split}
use Rattle.parts_laws.specs.Laws.{part_threaded}
use Rattle.parts.specs.declared.joining.Part.{Part}
use Rattle.parts.specs.Joining.{printed_in, left_in}
use Rattle.frame_audit.specs.Texts.{Telling, audited_texts}
use Rattle.rounds.specs.InParts.{numbered}

-- what is told in the part of this number, and what it leaves, with marks of its own
abbrev pub part : ℕ → List Account → Split (List ℕ) → List Handed → Sets → (ℕ → Marks) → ℕ → Ran (List ℕ) DataSet Telling
part slots accounts split texts sets marks k = part_threaded (audited_texts slots accounts) split (numbered 0 0 texts) sets marks k

-- a data set as a catalogue has it
abbrev pub set_text : List ℕ → DataSet → List ℕ
set_text name set = text_of (set_lines (name, set))

-- these are the parts' outputs, and these their audits
pub record Wrote (slots : ℕ) (accounts : List Account) (split : Split (List ℕ)) (texts : List Handed) (sets : Sets) (marks : ℕ → Marks)
    (outputs audits : List Part) : Type 0 where
  pub printed : (k : ℕ) → printed_in outputs k ≡ map (λ e. (e.0, printouts_text e.1.printouts)) (part slots accounts split texts sets marks k).printed
  pub left : (k : ℕ) → left_in outputs k ≡ map (λ e. (e.0, set_text e.0 e.1)) (part slots accounts split texts sets marks k).sets
  pub audited : (k : ℕ) → printed_in audits k ≡ map (λ e. (e.0, e.1.audit)) (part slots accounts split texts sets marks k).printed
