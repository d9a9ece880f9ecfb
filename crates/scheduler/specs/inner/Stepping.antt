-- One turn of one seat.
use Rattle.std.specs.Prelude.{◌≡◌, ◌⊎◌, true, ℕ, suc, ◌+◌, List, [], ◌∷◌, length, take, Option, None, Some}
use Rattle.mon_device.specs.Putting.{Standing, Puts}
use Rattle.mon_catalogue.specs.Sets.{Sets}
use Rattle.sno_run.specs.declared.ending.Step.{Step}
use Rattle.sno_run.specs.declared.ending.Step.TheVariants as step
use Rattle.sno_run.specs.declared.ending.Ending.{Ending}
use Rattle.sno_run.specs.declared.ending.Ending.TheVariants.{Memory}
use Rattle.interaction.specs.Counting.{requests_in, statements_in}
use Rattle.sno_run.specs.Jobs.{Job, counted_turn, turn_of, statements_begun}
use Rattle.mon_access.specs.declared.account.Account.{Account}
use Rattle.mon_unit.specs.declared.service.UnitService.{UnitService}
use Rattle.mon_unit.specs.Runs.{run, run_cut, passed}
use Rattle.mon_unit.specs.Serving.{serve}
use Rattle.mon_unit.specs.Lent.{SameLoans, reach_of}
use Rattle.audit.specs.declared.audit_cache.AuditCache.{AuditCache}
use Rattle.audit.specs.inner.Keeping.{KeptFits}
use Rattle.job_end.specs.declared.turned.Turned.TheVariants.{Empty, Goes, Ended}
use Rattle.scheduler.specs.States.{SlotState, SchedulerState, scheduler, job_in, with_seat}
use Rattle.scheduler.specs.Turns.{reached, ran, job_end}
use Rattle.scheduler.specs.Marks.{Mark, passed_at, exchanges_at, may_break}
use Rattle.scheduler.specs.Exchanged.{asked_by, whole_turn}
use Rattle.job_end.specs.AuditLines.{ended_line}
use Rattle.scheduler.specs.AuditLines.{exchanged_lines}
use Rattle.scheduler.specs.Turning.{TurnOr}

-- what a turn that was broken off leaves, of the job of number n and of who served it
pub record Cut (n : ℕ) (a : Account) (job : Job) (s : UnitService) (st : Step) (job' : Job) (s' : UnitService) (p q : Standing) : Type 0 where
  pub moments : ℕ
  pub started : may_break job ≡ true
  pub counted : statements_begun job' ≡ statements_begun job + statements_in (passed (serve a) (suc moments) (counted_turn job) (reach_of s))
  pub memory : st ≡ step.Ended Memory
  pub left : run_cut (serve a) (length (requests_in (passed (serve a) (suc moments) (counted_turn job) (reach_of s)))) (turn_of job) (reach_of s) ≡ reach_of s'
  pub audited : Puts p q (exchanged_lines (take (length (requests_in (passed (serve a) (suc moments) (counted_turn job) (reach_of s)))) (asked_by n a (turn_of job) (reach_of s))))

-- a turn that such a service served, whole or broken off, and the lines of what was asked in it, which were put meanwhile
pub record Done (n : ℕ) (job : Job) (s : UnitService) (st : Step) (job' : Job) (s' : UnitService) (p q : Standing) : Type 0 where
  pub loans : SameLoans s s'
  pub is : ((run (serve s.account.now) (turn_of job) (reach_of s) ≡ ((st, job'), reach_of s')) × Puts p q (exchanged_lines (asked_by n s.account.now (turn_of job) (reach_of s))))
      ⊎ Cut n s.account.now job s st job' s' p q

-- the words of the audit's lines that are kept are those of the lines to come, as the service leaves what it was lent
pub record StillKept (n : ℕ) (s : UnitService) (kept : AuditCache) : Type 0 where
  pub number : kept.number ≡ n
  pub fits : KeptFits n s.account.now (reach_of s) kept

-- the turn was broken off at some mark, in a statement that had begun
pub record BrokenOff (slot : SlotState) (sets : Sets) (s : Step) (slot' : SlotState) (sets' : Sets) (a b : Standing) : Type 0 where
  pub mark : Mark
  pub started : may_break slot.job ≡ true
  pub counted : statements_begun slot'.job ≡ statements_begun slot.job + statements_in (passed_at mark slot sets)
  pub memory : s ≡ step.Ended Memory
  pub left : run_cut (serve slot.account) (exchanges_at mark slot sets) (turn_of slot.job) (reached sets slot) ≡ reached sets' slot'
  pub audited : Puts a b (exchanged_lines (take (exchanges_at mark slot sets) (whole_turn slot sets)))

-- or it was not
pub record Whole (slot : SlotState) (sets : Sets) (s : Step) (slot' : SlotState) (sets' : Sets) (a b : Standing) : Type 0 where
  pub is : ran slot sets ≡ ((s, slot'.job), reached sets' slot')
  pub audited : Puts a b (exchanged_lines (whole_turn slot sets))

-- the job of a slot had a turn
pub record Stepped (slot : SlotState) (sets : Sets) (s : Step) (slot' : SlotState) (sets' : Sets) (a b : Standing) : Type 0 where
  pub number : slot'.number ≡ slot.number
  pub account : slot'.account ≡ slot.account
  pub is : Whole slot sets s slot' sets' a b ⊎ BrokenOff slot sets s slot' sets' a b

-- the step is told, and the job stays in its seat
pub record Stays (slot : SlotState) (sets : Sets) (r : Option Step) (seat' : Option SlotState) (sets' : Sets) (a b : Standing) : Type 0 where
  pub step : Step
  pub after : SlotState
  pub stepped : Stepped slot sets step after sets' a b
  pub tells : r ≡ Some step
  pub stays : seat' ≡ Some after

-- a turn of a seat, that its job has not left yet if it has ended
abbrev pub SeatStep : Option SlotState → Sets → Option Step → Option SlotState → Sets → Standing → Standing → Type 0
SeatStep None sets r seat' sets' a b = (r ≡ None) × (seat' ≡ None) × (sets' ≡ sets) × (b ≡ a)
SeatStep (Some slot) sets r seat' sets' a b = Stays slot sets r seat' sets' a b

-- the job of a slot has ended, and the turn is that of the definitions once it has left and its end has its line
pub record Leaving (s : ℕ) (w : SchedulerState) (e : Ending) (w' : SchedulerState) (a b : Standing) : Type 0 where
  pub slot : SlotState
  pub there : job_in s w' ≡ Some slot
  pub turn : (c : Standing) → Puts b c (ended_line (job_end slot e)) → TurnOr s w (Ended (job_end slot e)) (scheduler w'.sets (with_seat s None w'.slots)) a c

-- one turn of the job in a slot
abbrev pub StepOr : ℕ → SchedulerState → Option Step → SchedulerState → Standing → Standing → Type 0
StepOr s w None w' a b = TurnOr s w Empty w' a b
StepOr s w (Some step.Goes) w' a b = TurnOr s w Goes w' a b
StepOr s w (Some (step.Ended e)) w' a b = Leaving s w e w' a b

-- how many jobs are in slots
abbrev pub one_in : Option SlotState → ℕ
one_in None = 0
one_in (Some slot) = 1

abbrev pub jobs_in : List (Option SlotState) → ℕ
jobs_in [] = 0
jobs_in (seat ∷ seats) = one_in seat + jobs_in seats
