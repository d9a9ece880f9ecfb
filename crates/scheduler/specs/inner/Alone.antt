-- Turns of a job that is alone in the slots: each is a round.
use Rattle.std.specs.Prelude.{◌≡◌, ◌≢◌, ◌≤◌, ℕ, suc, List, [], ◌∷◌, Option, Some, None, IsSome}
use Rattle.mon_device.specs.Putting.{Standing, Puts}
use Rattle.mon_catalogue.specs.Sets.{Sets}
use Rattle.sno_run.specs.declared.ending.Ending.{Ending}
use Rattle.scheduler.specs.States.{SlotState, SchedulerState, scheduler, seat_at, with_seat, job_in}
use Rattle.scheduler.specs.Turns.{job_end}
use Rattle.scheduler.specs.Marks.{turns_left, is_done}
use Rattle.job_end.specs.AuditLines.{ended_line}
use Rattle.scheduler.specs.inner.Stepping.{jobs_in}
use Rattle.scheduler.specs.inner.Rounding.{Going}

-- one slot has a job, and no other
abbrev pub IsLone : ℕ → List (Option SlotState) → Type 0
IsLone s slots = IsSome (seat_at s slots) × ((j : ℕ) → j ≢ s → seat_at j slots ≡ None)

-- a job has had turns, and goes on: where it is alone, they are rounds
pub record GoesOn (slot : SlotState) (sets : Sets) (slot' : SlotState) (sets' : Sets) (a b : Standing) : Type 0 where
  pub rounds : (s : ℕ) (slots : List (Option SlotState)) → seat_at s slots ≡ Some slot → IsLone s slots
      → Going is_done (scheduler sets slots) [] (scheduler sets' (with_seat s (Some slot') slots)) a b

-- and has ended in the last of them: once its end has its line, too
pub record GoesToEnd (slot : SlotState) (sets : Sets) (e : Ending) (slot' : SlotState) (sets' : Sets) (a b : Standing) : Type 0 where
  pub rounds : (c : Standing) → Puts b c (ended_line (job_end slot' e)) → (s : ℕ) (slots : List (Option SlotState)) → seat_at s slots ≡ Some slot → IsLone s slots
      → Going is_done (scheduler sets slots) (job_end slot' e ∷ []) (scheduler sets' (with_seat s None slots)) a c

-- how it ended is told, and it stays in its seat
pub record EndStays (slot : SlotState) (sets : Sets) (r : Option Ending) (seat' : Option SlotState) (sets' : Sets) (a b : Standing) : Type 0 where
  pub ending : Ending
  pub after : SlotState
  pub goes : GoesToEnd slot sets ending after sets' a b
  pub tells : r ≡ Some ending
  pub stays : seat' ≡ Some after

-- turns of a seat, until its job has ended, if it has one
abbrev pub SeatEnds : Option SlotState → Sets → Option Ending → Option SlotState → Sets → Standing → Standing → Type 0
SeatEnds None sets r seat' sets' a b = r ≡ None
SeatEnds (Some slot) sets r seat' sets' a b = EndStays slot sets r seat' sets' a b

-- the job that was alone in the slots has ended, and they are rounds once it has left
pub record LoneEnds (s : ℕ) (w : SchedulerState) (e : Ending) (w' : SchedulerState) (a b : Standing) : Type 0 where
  pub slot : SlotState
  pub there : job_in s w' ≡ Some slot
  pub is : (c : Standing) → Puts b c (ended_line (job_end slot e)) → Going is_done w (job_end slot e ∷ []) (scheduler w'.sets (with_seat s None w'.slots)) a c
  pub less : suc (turns_left (with_seat s None w'.slots)) ≤ turns_left w.slots
  pub jobs : suc (jobs_in (with_seat s None w'.slots)) ≡ jobs_in w.slots
