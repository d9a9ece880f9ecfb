-- A turn ends its job, or begins one of the statements that are left.
use Rattle.std.proofs.Common.{◌≡◌, ℕ, suc, ◌+◌, ◌<◌, ◌≤◌, Option, Some, None, refl, sym, ap, ◌∙◌, subst, inl, inr, arith, ◌⊎◌, slice_get}
use Rattle.scheduler.proofs.Common.{option_map_or, Interaction, Returns, Asks, EndsIn, ends_in_then, each_ends, Request, Answer, Asking, Counted, plain, plain_then, plain_ends, Expression, Normal, StatementLimit, Evaluated, evaluate, name_of, Jump, On, Over, Line, Lines, Point, At, End, Return, FailureReturn, executed, if_begun, settled, turn_line, same_runs, executed_same, Limits, keeping, allowed, state_counts, Ending, Step, Job, ending_of, stepped, turn_from, turn_of, run, run_bind}
use Rattle.interaction.specs.Interactions.{◌>>=◌}
use Rattle.sno_store.specs.declared.store.Store.{Store as State}
use Rattle.sno_semantics.specs.Running.{Turned, Goes, Ended, run as runs, turn}
use Rattle.sno_run.specs.declared.ending.Step.TheVariants as step

-- whoever replies, an interaction ends as it must
pub run_ends : {S Q R A : Type 0} (P : A → Type 0) (reply : S → Q → R × S) (t : Interaction Q R A) (s : S) → EndsIn P t → P (run reply t s).0
run_ends P reply (Returns a) s h = h
run_ends P reply (Asks q f) s h = run_ends P reply (f (reply s q).0) (reply s q).1 (h (reply s q).0)

-- where it goes on, fewer statements may begin than before
abbrev Fewer : Limits → State → Turned × State → Type 0
Fewer limits st (Goes p, s) = allowed limits s < allowed limits st
Fewer limits st (Ended h, s) = Unit {0}

module _ (limits : Limits) (program : Lines Expression Expression) where
  abbrev n : ℕ
  n = limits.statements

  abbrev go : Point → State → Counted (Evaluated × State)
  go = runs (keeping limits) evaluate name_of program n

  abbrev Left : State → Jump × State → Type 0
  Left after r = allowed limits r.1 ≤ allowed limits after

  stands_fewer : (st s : State) (index : ℕ) (o : Option (Line Expression Expression)) → allowed limits s < allowed limits st → Fewer limits st (option_map_or (λ _. Goes (At index)) o (Ended Normal), s)
  stands_fewer st s index None h = tt
  stands_fewer st s index (Some line) h = h

  settled_fewer : (st : State) (r : Jump × State) → allowed limits r.1 < allowed limits st → Fewer limits st (settled (keeping limits) evaluate name_of program r)
  settled_fewer st (On (At index), s) h = stands_fewer st s index (slice_get program.lines index) h
  settled_fewer st (On End, s) h = tt
  settled_fewer st (On Return, s) h = tt
  settled_fewer st (On FailureReturn, s) h = tt
  settled_fewer st (Over h1, s) h = tt

  begun_fewer : (index : ℕ) (line : Line Expression Expression) (st : State) (o : Option State) → (keeping limits).begun (index + 1) st ≡ o
      → EndsIn (Fewer limits st) (if_begun (keeping limits) evaluate name_of program (Ended StatementLimit) o st (λ st1. executed (keeping limits) evaluate name_of program go line index st1 >>= (λ next. Returns (settled (keeping limits) evaluate name_of program next))))
  begun_fewer index line st None is = tt
  begun_fewer index line st (Some after) is =
      let less : allowed limits after < allowed limits st = (state_counts limits).begun (index + 1) st after is in
      let few : allowed limits after ≤ n = omega arith in
      let stays = (executed_same (allowed limits) (keeping limits) (state_counts limits) program (allowed limits after) go go
      (same_runs (allowed limits) (keeping limits) (state_counts limits) program n n (allowed limits after) few few) line index after (omega arith)).1 in
      λ noted. ends_in_then (Left after) (Fewer limits st) (executed (keeping limits) evaluate name_of program go line index after) (λ next. Returns (settled (keeping limits) evaluate name_of program next)) stays
      (λ r h. settled_fewer st r (omega (arith, h, less)))

  line_fewer : (index : ℕ) (st : State) (o : Option (Line Expression Expression)) → EndsIn (Fewer limits st) (turn_line (keeping limits) evaluate name_of program n index o st)
  line_fewer index st None = tt
  line_fewer index st (Some line) = begun_fewer index line st ((keeping limits).begun (index + 1) st) refl

  turn_fewer : (p : Point) (st : State) → EndsIn (Fewer limits st) (turn (keeping limits) evaluate name_of program n p st)
  turn_fewer (At index) st = line_fewer index st (slice_get program.lines index)
  turn_fewer End st = tt
  turn_fewer Return st = tt
  turn_fewer FailureReturn st = tt

-- a turn ends the job, or begins one of the statements that are left
abbrev pub Less : Job → Step → Job → Type 0
Less job st job' = ((e : Ending) × (st ≡ step.Ended e)) ⊎ (suc (allowed job'.limits job'.state) ≤ allowed job.limits job.state)

pub job_less : {S : Type 0} (reply : S → Request → Answer × S) (job : Job) (w : S)
    → Less job (run reply (turn_of job) w).0.0 (run reply (turn_of job) w).0.1
job_less {S} reply job w = by (job.ended)
  where
    at : (r : Turned × State) → Fewer job.limits job.state r → Less job (stepped job r).0 (stepped job r).1
    at (Goes p, s) h = inr (omega (arith, h))
    at (Ended h1, s) h = inl (ending_of h1 s, refl)

    by : (o : Option Ending) → Less job (run reply (plain (turn_from o job)) w).0.0 (run reply (plain (turn_from o job)) w).0.1
    by (Some e) = inl (e, refl)
    by None =
        let t = turn (keeping job.limits) evaluate name_of job.program job.limits.statements job.point job.state in
        let is = ap (λ (u : Asking (Step × Job)). run reply u w) (plain_then t (λ after. Returns (stepped job after))) ∙ run_bind reply (plain t) (λ after. Returns (stepped job after)) w in
        subst (λ (r : (Step × Job) × S). Less job r.0.0 r.0.1) (sym is)
        (at (run reply (plain t) w).0 (run_ends (Fewer job.limits job.state) reply (plain t) w (plain_ends (Fewer job.limits job.state) t (turn_fewer job.limits job.program job.point job.state))))

-- a turn leaves a job's limits, and where it ends, the job has ended so
abbrev pub Comes : Job → Step × Job → Type 0
Comes job r = (r.1.limits ≡ job.limits) × ((ending : Ending) → r.0 ≡ step.Ended ending → r.1.ended ≡ Some ending)

module _ (job : Job) where
  same_ending : (one other : Ending) → step.Ended one ≡ step.Ended other → one ≡ other
  same_ending one other h = cc (h)

  comes_of : (t : Turned) (s : State) → Comes job (stepped job (t, s))
  comes_of (Goes p) s = (refl, λ ending is. absurd (let e : step.Goes ≡ step.Ended ending = is in cc (e)))
  comes_of (Ended h) s = (refl, λ ending is. ap (λ (e : Ending). Some e) (same_ending (ending_of h s) ending is))

  comes_from : (o : Option Ending) → job.ended ≡ o → EndsIn (Comes job) (turn_from o job)
  comes_from (Some e) is = (refl, λ ending same. is ∙ ap (λ (x : Ending). Some x) (same_ending e ending same))
  comes_from None is =
      each_ends (Comes job) (turn (keeping job.limits) evaluate name_of job.program job.limits.statements job.point job.state) (stepped job) (λ r. comes_of r.0 r.1)

pub turn_comes : {S : Type 0} (reply : S → Request → Answer × S) (job : Job) (w : S) → Comes job (run reply (turn_of job) w).0
turn_comes reply job w = run_ends (Comes job) reply (turn_of job) w (plain_ends (Comes job) (turn_from job.ended job) (comes_from job job.ended refl))
