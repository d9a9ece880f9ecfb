-- The exit status and the lines of standard error (own).
use Rattle.std.specs.Prelude.{ℕ, List, [], ◌++◌, Option, Some, None, Result, Ok, Err, codes, decimal}
use Rattle.scheduler.specs.declared.largest_printout.Holder.{Holder}
use Rattle.deck_driver.specs.declared.fault.RunError.{RunError}
use Rattle.deck_driver.specs.declared.fault.RunError.TheVariants.{DeckRefused, ReadFault, WriteFault, AuditFault, Memory}
use Rattle.deck_driver.specs.declared.options.Counts.{Counts}
use Rattle.deck_lines.specs.Codes.{code_text}
use Rattle.deck_run.specs.declared.shortage.Shortage.{Shortage}

-- 0; 1 for a refused deck; 3 for a fault
abbrev pub status_of : Result Counts RunError → ℕ
status_of (Ok counts) = 0
status_of (Err (DeckRefused line code)) = 1
status_of (Err ReadFault) = 3
status_of (Err WriteFault) = 3
status_of (Err AuditFault) = 3
status_of (Err Memory) = 3

-- what went wrong
abbrev pub fault_text : RunError → List ℕ
fault_text (DeckRefused line code) = codes "line " ++ decimal line ++ codes ": " ++ code_text code
fault_text ReadFault = codes "read fault"
fault_text WriteFault = codes "write fault"
fault_text AuditFault = codes "audit fault"
fault_text Memory = codes "out of memory"

abbrev pub fault_line : RunError → List ℕ
fault_line fault = codes "snomon: " ++ fault_text fault ++ codes "\n"

-- which job it is, and whose
abbrev pub name_text : Holder → List ℕ
name_text job = codes "; job " ++ decimal job.number ++ codes " of " ++ job.account

-- how much it holds of its printout
abbrev pub holder_text : Holder → List ℕ
holder_text job = name_text job ++ codes " holds most: " ++ decimal job.bytes ++ codes " bytes of printout"

abbrev pub job_text : Option Holder → List ℕ
job_text None = []
job_text (Some job) = holder_text job

-- how far a run had come where memory ran out: the second line, behind that of the fault
abbrev pub shortage_line : Shortage → List ℕ
shortage_line shortage = codes "snomon: at line " ++ decimal shortage.line ++ job_text shortage.job ++ codes "\n"
