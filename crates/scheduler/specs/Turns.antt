-- What turns do, where memory is not short (own): functions of the data sets and of the jobs in the slots.
use Rattle.std.specs.Prelude.{ℕ, List, [], ◌∷◌, ◌++◌, Option, Some, None}
use Rattle.mon_catalogue.specs.Sets.{Sets}
use Rattle.sno_run.specs.declared.ending.Step.{Step}
use Rattle.sno_run.specs.declared.ending.Step.TheVariants as step
use Rattle.sno_run.specs.declared.ending.Ending.{Ending}
use Rattle.sno_run.specs.Jobs.{Job, turn_of, statements_begun}
use Rattle.mon_unit.specs.Runs.{run}
use Rattle.mon_unit.specs.Serving.{Reach, serve}
use Rattle.job_end.specs.declared.job_end.JobEnd.{JobEnd}
use Rattle.job_end.specs.declared.turned.Turned.{Turned}
use Rattle.job_end.specs.declared.turned.Turned.TheVariants.{Empty, Goes, Ended}
use Rattle.scheduler.specs.States.{SlotState, SchedulerState, job_in, with_seat}

-- what a job's requests reach
abbrev pub reached : Sets → SlotState → Reach
reached sets slot = record { sets = sets; units = slot.units }

-- one turn of a job: its step and the job then, and what its requests reach then
abbrev pub ran : SlotState → Sets → (Step × Job) × Reach
ran slot sets = run (serve slot.account) (turn_of slot.job) (reached sets slot)

abbrev pub after_turn : SlotState → (Step × Job) × Reach → SlotState
after_turn slot r = record slot { job = r.0.1; units = r.1.units }

abbrev pub job_end : SlotState → Ending → JobEnd
job_end slot ending = record {
  number = slot.number;
  account = slot.account.name;
  spool = slot.units.spool;
  notes = slot.units.notes;
  ending = ending;
  statements = statements_begun slot.job;
}

-- a job that has ended leaves its slot
abbrev pub seat : Step → SlotState → Option SlotState
seat ended slot = elim ended [ step.Goes ↦ Some slot | step.Ended ending ↦ None ]

abbrev pub told : Step → SlotState → Turned
told ended slot = elim ended [ step.Goes ↦ Goes | step.Ended ending ↦ Ended (job_end slot ending) ]

abbrev pub turned : ℕ → (Step × Job) × Reach → SlotState → SchedulerState → Turned × SchedulerState
turned s r slot w = (told r.0.0 (after_turn slot r), record { sets = r.1.sets; slots = with_seat s (seat r.0.0 (after_turn slot r)) w.slots })

abbrev pub turn_by : ℕ → Option SlotState → SchedulerState → Turned × SchedulerState
turn_by s None w = (Empty, w)
turn_by s (Some slot) w = turned s (ran slot w.sets) slot w

-- one turn of the job in a slot, if there is one
abbrev pub turn : ℕ → SchedulerState → Turned × SchedulerState
turn s w = turn_by s (job_in s w) w

-- the jobs that ended, in order, each with its slot; and what is left
pub record Course : Type 0 where
  pub ends : List (ℕ × JobEnd)
  pub after : SchedulerState

abbrev pub ends_by : ℕ → Turned → List (ℕ × JobEnd)
ends_by s turned = elim turned [ Ended e ↦ (s, e) ∷ [] | _ ↦ [] ]

-- turns of the jobs in these slots, in this order
abbrev pub turns : List ℕ → SchedulerState → Course
turns [] w = record { ends = []; after = w }
turns (s ∷ E) w = record { ends = ends_by s (turn s w).0 ++ (turns E (turn s w).1).ends; after = (turns E (turn s w).1).after }
