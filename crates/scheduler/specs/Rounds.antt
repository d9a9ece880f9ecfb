-- What holds of turns, of rounds, and of marks, as statements.
use Rattle.std.specs.Prelude.{◌≡◌, ◌≢◌, ℕ, ◌≤◌, Bool, true, Option, None, List, [], ◌∷◌, length}
use Rattle.std.specs.List.{AllByRecursion}
use Rattle.sno_run.specs.declared.ending.Ending.TheVariants.{Memory}
use Rattle.job_end.specs.declared.job_end.JobEnd.{JobEnd}
use Rattle.scheduler.specs.States.{SchedulerState, job_in}
use Rattle.scheduler.specs.Turns.{turns, ends_by}
use Rattle.scheduler.specs.Marks.{Mark, Marks, turn_as, until, marked, rounds, turns_left, rounds_until, is_done, has_free_slot, drain, room}

-- without marks they are the turns of the definitions, and no mark is left
pub record Unmarked (w : SchedulerState) (E : List ℕ) : Type 0 where
  pub ends : (marked E [] w).ends ≡ (turns E w).ends
  pub after : (marked E [] w).after ≡ (turns E w).after
  pub marks : (marked E [] w).marks ≡ []

abbrev pub WithoutMarks : Type 0
WithoutMarks = (w : SchedulerState) (E : List ℕ) → Unmarked w E

abbrev pub NoneByMemory : List (ℕ × JobEnd) → Type 0
NoneByMemory ends = AllByRecursion (λ e. e.1.ending ≢ Memory) ends

-- and so they are where no job has ended for want of memory
abbrev pub MarksEndJobs : Type 0
MarksEndJobs = (stop : SchedulerState → Bool) (w : SchedulerState) (E : List ℕ) (m : Marks) → NoneByMemory (until stop E m w).ends
    → ((until stop E m w).ends ≡ (until stop E [] w).ends) × ((until stop E m w).after ≡ (until stop E [] w).after)

-- a turn takes one mark, and is broken off as that says
abbrev pub TakesOneMark : Type 0
TakesOneMark = (s : ℕ) (m : Option Mark) (rest : Marks) (w : SchedulerState)
    → marked (s ∷ []) (m ∷ rest) w ≡ record { ends = ends_by s (turn_as m s w).0; after = (turn_as m s w).1; marks = rest }

-- a test that says yes at the latest when all slots are empty
abbrev pub AtLast : (SchedulerState → Bool) → SchedulerState → Type 0
AtLast stop w = (v : SchedulerState) → length v.slots ≡ length w.slots → is_done v ≡ true → stop v ≡ true

-- so many rounds are enough, and more change nothing
pub record Enough (stop : SchedulerState → Bool) (w : SchedulerState) (m : Marks) : Type 0 where
  pub stops : stop (rounds_until stop m w).after ≡ true
  pub same : (n : ℕ) → turns_left w.slots ≤ n → until stop (rounds n (length w.slots)) m w ≡ rounds_until stop m w

abbrev pub RoundsEnd : Type 0
RoundsEnd = (stop : SchedulerState → Bool) (w : SchedulerState) → AtLast stop w → (m : Marks) → Enough stop w m

abbrev pub DrainEmpties : Type 0
DrainEmpties = (w : SchedulerState) (m : Marks) (s : ℕ) → job_in s (drain m w).after ≡ None

abbrev pub RoomIsMade : Type 0
RoomIsMade = (w : SchedulerState) (m : Marks) → length w.slots ≢ 0 → has_free_slot (room m w).after ≡ true
