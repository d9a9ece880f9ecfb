-- Turns on the way to a goal.
use Rattle.std.specs.Prelude.{◌≡◌, ◌⊎◌, ◌++◌, Bool, true, false, ℕ, List, map, length}
use Rattle.std.specs.List.{range_with_len}
use Rattle.mon_device.specs.Putting.{Standing, Puts}
use Rattle.job_end.specs.declared.job_end.JobEnd.{JobEnd}
use Rattle.scheduler.specs.declared.rounds.Goal.{Goal}
use Rattle.scheduler.specs.declared.rounds.Goal.TheVariants as goal
use Rattle.job_end.specs.declared.turned.Turned.{Turned}
use Rattle.scheduler.specs.States.{SchedulerState}
use Rattle.scheduler.specs.Marks.{Marks, until, rounds_until, is_done, has_free_slot}
use Rattle.scheduler.specs.inner.Parts.{ends_then}
use Rattle.scheduler.specs.AuditLines.{lines_until, lines_of_rounds}
use Rattle.scheduler.specs.Turning.{TurnOr, ended_in}

-- where turns stop that go to a goal
abbrev pub stop_of : Goal → SchedulerState → Bool
stop_of goal.Empty = is_done
stop_of goal.Room = has_free_slot

-- with some marks it has come from w by the turns E as far as this: these jobs have ended, and the turns F are left
pub record Ahead (stop : SchedulerState → Bool) (E : List ℕ) (w : SchedulerState) (ends : List JobEnd) (F : List ℕ) (now : SchedulerState) (a b : Standing) : Type 0 where
  pub marks : Marks
  pub numbered : List (ℕ × JobEnd)
  pub ended : map (λ e. e.1) numbered ≡ ends
  pub is : (rest : Marks) → until stop E (marks ++ rest) w ≡ ends_then numbered (until stop F rest now)
  pub lines : List ℕ
  pub tells : (rest : Marks) → lines_until stop E (marks ++ rest) w ≡ lines ++ lines_until stop F rest now
  pub audited : Puts a b lines

-- some turns of a round: more jobs have ended, and the turns F of the round are left
pub record RoundTo (stop : SchedulerState → Bool) (w : SchedulerState) (before ends : List JobEnd) (F : List ℕ) (now : SchedulerState) (a b : Standing) : Type 0 where
  pub more : List JobEnd
  pub grown : ends ≡ before ++ more
  pub is : Ahead stop (range_with_len 1 (length w.slots)) w more F now a b

-- some rounds
pub record Going (stop : SchedulerState → Bool) (w : SchedulerState) (ends : List JobEnd) (now : SchedulerState) (a b : Standing) : Type 0 where
  pub marks : Marks
  pub numbered : List (ℕ × JobEnd)
  pub ended : map (λ e. e.1) numbered ≡ ends
  pub is : (rest : Marks) → rounds_until stop (marks ++ rest) w ≡ ends_then numbered (rounds_until stop rest now)
  pub lines : List ℕ
  pub tells : (rest : Marks) → lines_of_rounds stop (marks ++ rest) w ≡ lines ++ lines_of_rounds stop rest now
  pub audited : Puts a b lines

-- some rounds, in which more jobs have ended
pub record GoingTo (stop : SchedulerState → Bool) (w : SchedulerState) (before ends : List JobEnd) (now : SchedulerState) (a b : Standing) : Type 0 where
  pub more : List JobEnd
  pub grown : ends ≡ before ++ more
  pub is : Going stop w more now a b

-- a turn, whose end is kept
pub record OneTurn (s : ℕ) (w : SchedulerState) (ends ends' : List JobEnd) (w' : SchedulerState) (a b : Standing) : Type 0 where
  pub told : Turned
  pub is : TurnOr s w told w' a b
  pub kept : ends' ≡ ends ++ ended_in told

-- a turn, unless it is a scheduler to stop at
abbrev pub Unless : (SchedulerState → Bool) → ℕ → SchedulerState → List JobEnd → List JobEnd → SchedulerState → Standing → Standing → Type 0
Unless stop s w ends ends' w' a b = ((stop w ≡ true) × (ends' ≡ ends) × (w' ≡ w) × (b ≡ a)) ⊎ ((stop w ≡ false) × OneTurn s w ends ends' w' a b)
