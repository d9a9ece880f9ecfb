-- What turns change (own): the data sets, and the slots with their jobs.
use Rattle.std.specs.Prelude.{ℕ, zero, suc, List, Option, None, is_none, slice_get, slice_set}
use Rattle.std.specs.Option.{option_flatten}
use Rattle.std.specs.List.{position_from}
use Rattle.mon_access.specs.declared.account.Account.{Account}
use Rattle.mon_catalogue.specs.Sets.{Sets}
use Rattle.sno_run.specs.Jobs.{Job}
use Rattle.mon_unit.specs.State.{UnitState}

-- a job in a slot: its number, the account that it is for, the job itself, and its units
pub record SlotState : Type 0 where
  pub number : ℕ
  pub account : Account
  pub job : Job
  pub units : UnitState

-- a seat is what a slot holds: a job or none; slots are counted from 1
pub record SchedulerState : Type 0 where
  pub sets : Sets
  pub slots : List (Option SlotState)

abbrev pub scheduler : Sets → List (Option SlotState) → SchedulerState
scheduler sets slots = record { sets = sets; slots = slots }

-- the seat of this number; one that there isn't is empty
abbrev pub seat_at : ℕ → List (Option SlotState) → Option SlotState
seat_at s slots = elim s [ zero ↦ None | suc i ↦ option_flatten (slice_get slots i) ]

abbrev pub with_seat : ℕ → Option SlotState → List (Option SlotState) → List (Option SlotState)
with_seat s seat slots = elim s [ zero ↦ slots | suc i ↦ slice_set slots i seat ]

-- the job in a slot
abbrev pub job_in : ℕ → SchedulerState → Option SlotState
job_in s w = seat_at s w.slots

-- the lowest free slot: the number of the first empty seat
abbrev pub first_free : List (Option SlotState) → Option ℕ
first_free slots = position_from is_none 1 slots
