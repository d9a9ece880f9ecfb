-- THE LINES OF AN AUDIT that turns put (own): each names the job and its account. What a line says of a request, the crate audit says; of a job's
-- end, job_end.
use Rattle.std.specs.Prelude.{ℕ, Bool, List, [], ◌∷◌, ◌++◌, length, drop, Option, if◌then◌else◌}
use Rattle.std.specs.List.{flat_map}
use Rattle.audit.specs.Requests.{exchange_line}
use Rattle.job_end.specs.declared.turned.Turned.{Turned}
use Rattle.job_end.specs.declared.turned.Turned.TheVariants.{Empty, Goes, Ended}
use Rattle.job_end.specs.AuditLines.{ended_line}
use Rattle.scheduler.specs.States.{SchedulerState, job_in}
use Rattle.scheduler.specs.Marks.{Mark, Marks, mark_of, turn_as, rounds, turns_left}
use Rattle.scheduler.specs.Exchanged.{Exchanged, asked_in}

-- a request of a job, as it was answered
abbrev pub exchanged_line : Exchanged → List ℕ
exchanged_line e = exchange_line e.number e.account e.reach e.request e.answer

-- THE LINES OF TURNS

abbrev pub exchanged_lines : List Exchanged → List ℕ
exchanged_lines asked = flat_map exchanged_line asked

-- of the job that has ended with a turn, if one has
abbrev pub end_lines : Turned → List ℕ
end_lines Empty = []
end_lines Goes = []
end_lines (Ended e) = ended_line e

-- of a turn of the job in a slot: of all that it asks, and of its end
abbrev pub turn_lines : Option Mark → ℕ → SchedulerState → List ℕ
turn_lines m s w = exchanged_lines (asked_in m (job_in s w) w.sets) ++ end_lines (turn_as m s w).0

-- of turns of the jobs in these slots, until the scheduler is one to stop at
abbrev pub lines_until : (SchedulerState → Bool) → List ℕ → Marks → SchedulerState → List ℕ
lines_until stop [] m w = []
lines_until stop (s ∷ E) m w =
    if stop w then []
    else turn_lines (mark_of m) s w ++ lines_until stop E (drop 1 m) (turn_as (mark_of m) s w).1

-- of rounds of turns, until the scheduler is one to stop at
abbrev pub lines_of_rounds : (SchedulerState → Bool) → Marks → SchedulerState → List ℕ
lines_of_rounds stop m w = lines_until stop (rounds (turns_left w.slots) (length w.slots)) m w
