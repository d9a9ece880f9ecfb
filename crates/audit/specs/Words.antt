-- The words of the audit's lines (own). A line is words, each behind one blank, in a fixed order. The first four say what it is of: `JOB`
-- and the job's number, or `COMMAND` and 0; the account; and what happened. No record's text is in a line.
use Rattle.std.specs.Prelude.{ℕ, List, ◌++◌, codes}
use Rattle.mon_unit.specs.declared.tie.Target.{Target}
use Rattle.mon_unit.specs.declared.tie.Target.TheVariants.{Untied, Data, Spool, Set}
use Rattle.interaction.specs.declared.answer.Answer.{Answer}
use Rattle.interaction.specs.declared.answer.Answer.TheVariants.{Done, Got, EndOfFile, Denied, Full}
use Rattle.mon_command.specs.Printouts.{word, number}

-- a line of a job, with these words of what happened
abbrev pub job_line : ℕ → List ℕ → List ℕ → List ℕ
job_line n account what = codes "JOB" ++ number n ++ word account ++ what ++ codes "\n"

-- and one of a command
abbrev pub command_line : List ℕ → List ℕ → List ℕ
command_line account what = codes "COMMAND 0" ++ word account ++ what ++ codes "\n"

-- what a unit is tied to: a data set by its name, which begins with a letter; or what no name can be
abbrev pub target_word : Target → List ℕ
target_word target = elim target [ Untied ↦ codes ".NONE" | Data ↦ codes ".DATA" | Spool ↦ codes ".SPOOL" | Set name ↦ name ]

-- what a request comes to
abbrev pub outcome_word : Answer → List ℕ
outcome_word told = elim told [ Done ↦ codes "DONE" | Got line ↦ codes "GOT" | EndOfFile ↦ codes "EOF" | Denied reason ↦ codes "DENIED" | Full ↦ codes "FULL" ]
