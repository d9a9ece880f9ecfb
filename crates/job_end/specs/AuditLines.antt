-- The lines of an audit that speak of a job as it is loaded, is refused, and ends (own): each names the job and its account.
use Rattle.std.specs.Prelude.{ℕ, List, ◌++◌, codes}
use Rattle.mon_command.specs.Printouts.{number}
use Rattle.audit.specs.Words.{job_line}
use Rattle.job_end.specs.declared.job_end.JobEnd.{JobEnd}
use Rattle.load_refusal.specs.declared.load_error.LoadError.{LoadError}
use Rattle.job_end.specs.Printouts.{ending_words, refusal_words}

abbrev pub loaded_line : ℕ → List ℕ → List ℕ
loaded_line n account = job_line n account (codes " LOADED")

abbrev pub refused_line : ℕ → List ℕ → LoadError → List ℕ
refused_line n account refusal = job_line n account (codes " REFUSED " ++ refusal_words refusal)

-- how a job has ended, and after how many statements
abbrev pub ended_line : JobEnd → List ℕ
ended_line end = job_line end.number end.account (codes " ENDED" ++ ending_words end.ending ++ codes " AFTER" ++ number end.statements)
