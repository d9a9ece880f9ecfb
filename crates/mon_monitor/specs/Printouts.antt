-- What is printed (own): a printout for each command, for each job that has ended, and for each that was not loaded.
use Rattle.std.specs.Prelude.{ℕ, List}
use Rattle.std.specs.List.{flat_map}
use Rattle.job_end.specs.declared.job_end.JobEnd.{JobEnd}
use Rattle.load_refusal.specs.declared.load_error.LoadError.{LoadError}
use Rattle.job_end.specs.Printouts.{printout, refusal_text}

pub data Printout : Type 0 where
  -- of a command: its printout
  OfCommand : List ℕ → Printout
  -- of a job that has ended
  OfJob : JobEnd → Printout
  -- of a job that is not loaded: its number, its account, and why
  OfRefused : ℕ → List ℕ → LoadError → Printout

abbrev pub printout_text : Printout → List ℕ
printout_text shown = elim shown [ OfCommand text ↦ text | OfJob end ↦ printout end | OfRefused n account refusal ↦ refusal_text n account refusal ]

abbrev pub printouts_text : List Printout → List ℕ
printouts_text printouts = flat_map printout_text printouts
