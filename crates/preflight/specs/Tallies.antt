-- What a text asks for, in numbers (own).
use Rattle.std.specs.Prelude.{ℕ, ◌*◌, max, Bool, true, false, List, [], ◌∷◌, length}
use Rattle.std.specs.List.{fold, sum_by, count_by}
use Rattle.deck_lines.specs.declared.command.Command.TheVariants.{Create}
use Rattle.deck_syntax.specs.declared.job.OpenJob.{OpenJob}
use Rattle.deck_syntax.specs.Decks.{Asked, Commands, Enters}
use Rattle.preflight.specs.declared.tally.Tally.{Tally}

-- the jobs that are to be loaded
abbrev pub jobs_of : List Asked → List OpenJob
jobs_of [] = []
jobs_of (Enters job ∷ asked) = job ∷ jobs_of asked
jobs_of (_ ∷ asked) = jobs_of asked

-- whether a data set is to be made
abbrev pub creates : Asked → Bool
creates (Commands (Create account name mode)) = true
creates _ = false

-- how many statements of a job may begin
abbrev pub statements_of : OpenJob → ℕ
statements_of job = job.limits.statements

-- these, times how many steps a match may take
abbrev pub work_of : OpenJob → ℕ
work_of job = job.limits.statements * job.limits.steps

-- the larger of some work and that of a job
abbrev pub more_work : ℕ → OpenJob → ℕ
more_work most job = max most (work_of job)

-- of a text that has so many bytes and asks for this
abbrev pub tally_of : List Asked → ℕ → Tally
tally_of asked bytes = record {
  jobs = length (jobs_of asked);
  statements = sum_by statements_of (jobs_of asked);
  largest = fold more_work 0 (jobs_of asked);
  work = sum_by work_of (jobs_of asked);
  creates = count_by creates asked;
  bytes = bytes;
}
