-- A turn ends no job for want of memory by itself, and a job that goes on has not ended.
use Rattle.std.proofs.Common.{◌≡◌, ◌≢◌, Some, None, Option}
use Rattle.mon_monitor.proofs.Common.{EndsIn, each_ends, Request, plain_ends, Halt, evaluate, name_of, keeping, Ending, Step, Job, ending_of, stepped, turn_from, turn_of, run, run_ends, Answer, Memory}
use Rattle.sno_store.specs.declared.store.Store.{Store as State}
use Rattle.sno_semantics.specs.declared.got.Halt.TheVariants as halt
use Rattle.sno_semantics.specs.Running.{Turned, Goes, Ended, turn}
use Rattle.sno_run.specs.declared.ending.Step.TheVariants as step

-- a turn ends so, and goes on so
abbrev pub Unbroken : Step × Job → Type 0
Unbroken r = (r.0 ≢ step.Ended Memory) × (r.0 ≡ step.Goes → r.1.ended ≡ None)

module _ (job : Job) (none : job.ended ≡ None) where
  not_memory : (h : Halt) (s : State) → step.Ended (ending_of h s) ≢ step.Ended Memory
  not_memory halt.Normal s is = cc (is)
  not_memory halt.StatementLimit s is = cc (is)
  not_memory halt.MatchLimit s is = cc (is)
  not_memory (halt.Fault f) s is = cc (is)

  unbroken_of : (t : Turned) (s : State) → Unbroken (stepped job (t, s))
  unbroken_of (Goes p) s = ((λ is. (let e : step.Goes ≡ step.Ended Memory = is in cc (e))), λ is. none)
  unbroken_of (Ended h) s = (not_memory h s, λ is. absurd (let e : step.Ended (ending_of h s) ≡ step.Goes = is in cc (e)))

  unbroken_from : (o : Option Ending) → o ≡ None → EndsIn Unbroken (turn_from o job)
  unbroken_from (Some e) is = absurd cc
  unbroken_from None is =
      each_ends Unbroken (turn (keeping job.limits) evaluate name_of job.program job.limits.statements job.point job.state) (stepped job) (λ r. unbroken_of r.0 r.1)

  pub turn_unbroken : {S : Type 0} (reply : S → Request → Answer × S) (w : S) → Unbroken (run reply (turn_of job) w).0
  turn_unbroken reply w = run_ends Unbroken reply (turn_of job) w (plain_ends Unbroken (turn_from job.ended job) (unbroken_from job.ended none))
