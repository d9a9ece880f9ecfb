-- What the calls promise: turns are those of the definitions, with some marks; and with these marks, the lines of the turns were put to the
-- audit, whose sink stands as a says before and as b says then.
use Rattle.std.specs.Prelude.{◌≡◌, Bool, ℕ, List, [], ◌∷◌, ◌++◌, map, length, Option, Some, None}
use Rattle.mon_device.specs.Putting.{Standing, Puts}
use Rattle.job_end.specs.declared.job_end.JobEnd.{JobEnd}
use Rattle.job_end.specs.declared.turned.Turned.{Turned}
use Rattle.job_end.specs.declared.turned.Turned.TheVariants.{Empty, Goes, Ended}
use Rattle.scheduler.specs.States.{SchedulerState}
use Rattle.scheduler.specs.Marks.{Mark, Marks, Past, turn_as, until, never, rounds, turns_left, is_done, has_free_slot}
use Rattle.scheduler.specs.AuditLines.{turn_lines, lines_until}

-- one turn, perhaps broken off: it takes one mark, which is this
pub record TurnOr (s : ℕ) (w : SchedulerState) (t : Turned) (w' : SchedulerState) (a b : Standing) : Type 0 where
  pub mark : Option Mark
  pub is : turn_as mark s w ≡ (t, w')
  pub audited : Puts a b (turn_lines mark s w)

-- the job that ended in a turn, if one did
abbrev pub ended_in : Turned → List JobEnd
ended_in Empty = []
ended_in Goes = []
ended_in (Ended e) = e ∷ []

-- the job that ended in some turns of one slot, if it did
abbrev pub end_in : Option JobEnd → List JobEnd
end_in None = []
end_in (Some e) = e ∷ []

-- these jobs have ended, this is left, and these marks no turn took
pub record Passed (ends : List JobEnd) (w' : SchedulerState) (rest : Marks) (p : Past) : Type 0 where
  pub ended : map (λ e. e.1) p.ends ≡ ends
  pub after : p.after ≡ w'
  pub marks : p.marks ≡ rest

-- Turns in this order until a scheduler is one to stop at: with some marks, and whatever marks come behind these, these jobs end,
-- this is left, and so are the marks behind.
pub record UntilIs (stop : SchedulerState → Bool) (E : List ℕ) (w : SchedulerState) (ends : List JobEnd) (w' : SchedulerState) (a b : Standing) : Type 0 where
  pub marks : Marks
  pub is : (rest : Marks) → Passed ends w' rest (until stop E (marks ++ rest) w)
  pub lines : List ℕ
  pub tells : (rest : Marks) → lines_until stop E (marks ++ rest) w ≡ lines
  pub audited : Puts a b lines

abbrev pub MarkedIs : List ℕ → SchedulerState → List JobEnd → SchedulerState → Standing → Standing → Type 0
MarkedIs E w ends w' a b = UntilIs never E w ends w' a b

abbrev pub RoundsAre : (SchedulerState → Bool) → SchedulerState → List JobEnd → SchedulerState → Standing → Standing → Type 0
RoundsAre stop w ends w' a b = UntilIs stop (rounds (turns_left w.slots) (length w.slots)) w ends w' a b

abbrev pub DrainIs : SchedulerState → List JobEnd → SchedulerState → Standing → Standing → Type 0
DrainIs w ends w' a b = RoundsAre is_done w ends w' a b

abbrev pub RoomIs : SchedulerState → List JobEnd → SchedulerState → Standing → Standing → Type 0
RoomIs w ends w' a b = RoundsAre has_free_slot w ends w' a b
