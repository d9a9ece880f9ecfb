-- What the calls do is what the definitions say.
use Rattle.std.proofs.Common.{◌≡◌, ℕ, zero, suc, ◌+◌, ◌<◌, ◌≤◌, Bool, true, false, List, [], ◌∷◌, ◌++◌, length, take, Option, Some, None, refl, ap, sym, ◌∙◌, subst, inl, inr, arith, ◌⊎◌, ◌&&◌, option_map, is_some, is_none, IsSome, IfSome, slice_get, slice_set, slice_index_or}
use Rattle.scheduler.proofs.Common.{slice_get_read, option_flatten, AnswersAll, Exchange, IsTrace, IsTracePrefix, requests_in, statements_in, plain_begun, Step, may_begin, Ending, Job, counted_turn, turn_of, Broken, TurnIs, MayBegin, statements_begun, statement_at, Account, Standing, Puts, puts_nothing, puts_same, puts_then, puts_failed, puts_gathered, Sets, UnitService, run, run_cut, Reach, serve, UnitAnswers, reach_of, served_run, served_cut, served_passed, JobEnd, Slot, Empty, seat_of, seats_of, SlotState, SchedulerState, scheduler, seat_at, with_seat, job_in, reached, after_turn, job_end, seat, turned, Mark, passed_at, exchanges_at, counted, may_break, ran_as, turn_as, Exchanged, asked_by, whole_turn, asked_in, broken_turn, ended_line, exchanged_lines, end_lines, turn_lines, TurnOr, ended_in, Cut, BrokenOff, Whole, Stepped, SeatStep, Leaving, StepOr, one_in, jobs_in, Memory, Turned, Goes, Ended, told}
use Rattle.interaction.specs.Counting.{Passed}
use Rattle.interaction.specs.Counting as counting
use Rattle.sno_run.specs.declared.ending.Step.TheVariants as step
use Rattle.mon_unit.specs.Runs.{passed}
use Rattle.scheduler.proofs.{Seats.{set_get, get_set, set_set, map_get, map_set}, Shorthand.{turn_as_by, broken_by}}

-- a statement may begin where a turn is broken off
pub may_break_is : (job : Job) → job.ended ≡ None → MayBegin job → may_break job ≡ true
may_break_is job none may =
    ap (λ (o : Option Ending). is_none o && (is_some (statement_at job.point job.program.lines) && may_begin job.limits.statements job.state)) none
    ∙ ap (λ (b : Bool). b && may_begin job.limits.statements job.state) (is_some_of (statement_at job.point job.program.lines) may.0)
    ∙ may.1
  where
    is_some_of : {A : Type 0} (o : Option A) → IsSome o → is_some o ≡ true
    is_some_of None h = absurd cc
    is_some_of (Some x) h = refl

-- it had passed some moments, of which the first was the beginning of its statement
cut_of : (n : ℕ) (a : Account) (job : Job) (s : UnitService) (x : List Exchange) (s' : UnitService) (st : Step) (job' : Job) (p q : Standing) → s.account.now ≡ a
    → AnswersAll UnitAnswers s x s' → (IsTracePrefix (turn_of job) x → Puts p q (exchanged_lines (take (length x) (asked_by n a (turn_of job) (reach_of s)))))
    → (b : Broken job x st job') → (all : List Passed) → b.broken.passed ≡ all → Cut n a job s st job' s' p q
cut_of n a job s x s' st job' p q is h put b [] none =
    let before = b.begun.0 in
    let count = b.broken.counted ∙ ap (λ (l : List Passed). statements_begun job + statements_in l) none in
    absurd (omega (arith, before, count))
cut_of n a job s x s' st job' p q is h put b (m ∷ more) some =
    let all : List Passed = m ∷ more in
    let begins : counting.IsTracePrefix (counted_turn job) all = subst (λ (l : List Passed). counting.IsTracePrefix (counted_turn job) l) some b.broken.begins in
    let asked : x ≡ requests_in all = b.broken.asked ∙ ap requests_in some in
    let answered : AnswersAll UnitAnswers s (requests_in all) s' = subst (λ (y : List Exchange). AnswersAll UnitAnswers s y s') asked h in
    let same : passed (serve a) (suc (length more)) (counted_turn job) (reach_of s) ≡ all = served_passed a (counted_turn job) s all s' is answered begins in
    let begun : IsTracePrefix (turn_of job) (requests_in all) = plain_begun (counted_turn job) all begins in
    record {
      moments = length more;
      started = may_break_is job b.going b.started;
      counted = b.broken.counted ∙ ap (λ (l : List Passed). statements_begun job + statements_in l) (some ∙ sym same);
      memory = b.memory;
      left = ap (λ (l : List Passed). run_cut (serve a) (length (requests_in l)) (turn_of job) (reach_of s)) same
          ∙ served_cut a (turn_of job) s (requests_in all) s' is answered begun;
      audited = puts_same p q _ _ (ap (λ (l : List Exchange). exchanged_lines (take (length l) (asked_by n a (turn_of job) (reach_of s)))) (asked ∙ ap requests_in (sym same)))
          (put (subst (λ (l : List Exchange). IsTracePrefix (turn_of job) l) (sym asked) begun));
    }

-- a turn with who is lent the sets is that of the definitions, or was broken off; and so are the lines that were put meanwhile
pub turn_done : (n : ℕ) (a : Account) (job : Job) (s : UnitService) (x : List Exchange) (s' : UnitService) (st : Step) (job' : Job) (p q : Standing) → s.account.now ≡ a
    → AnswersAll UnitAnswers s x s'
    → (IsTrace (turn_of job) x (st, job') → Puts p q (exchanged_lines (asked_by n a (turn_of job) (reach_of s))))
    → (IsTracePrefix (turn_of job) x → Puts p q (exchanged_lines (take (length x) (asked_by n a (turn_of job) (reach_of s)))))
    → TurnIs job x st job'
    → ((run (serve a) (turn_of job) (reach_of s) ≡ ((st, job'), reach_of s')) × Puts p q (exchanged_lines (asked_by n a (turn_of job) (reach_of s))))
    ⊎ Cut n a job s st job' s' p q
turn_done n a job s x s' st job' p q is h whole cut (inl t) = inl (served_run a (turn_of job) s x (st, job') s' is h t, whole t)
turn_done n a job s x s' st job' p q is h whole cut (inr b) = inr (cut_of n a job s x s' st job' p q is h cut b b.broken.passed refl)

-- the seat is there that a job is in
module _ (s : ℕ) (sets sets' : Sets) (slots : List (Option SlotState)) (slot slot' : SlotState) (a b c : Standing) (is : seat_at s slots ≡ Some slot) where
  -- the lines of a turn
  turn_put : (m : Option Mark) (st : Step) (asked : List Exchanged) → asked_in m (Some slot) sets ≡ asked → (turn_as m s (scheduler sets slots)).0 ≡ told st slot'
      → Puts a b (exchanged_lines asked) → Puts b c (end_lines (told st slot')) → Puts a c (turn_lines m s (scheduler sets slots))
  turn_put m st asked e t first second =
      let end : List ℕ = end_lines (turn_as m s (scheduler sets slots)).0 in
      puts_same a c (exchanged_lines asked ++ end_lines (told st slot')) (turn_lines m s (scheduler sets slots))
      (sym (ap (λ (o : Option SlotState). exchanged_lines (asked_in m o sets) ++ end) is ∙ ap (λ (l : List Exchanged). exchanged_lines l ++ end) e
      ∙ ap (λ (u : Turned). exchanged_lines asked ++ end_lines u) t))
      (puts_then a b c (exchanged_lines asked) (end_lines (told st slot')) first second)

  -- a turn of the job in a slot
  pub stepped_turn : (st : Step) → Stepped slot sets st slot' sets' a b → Puts b c (end_lines (told st slot'))
      → TurnOr s (scheduler sets slots) (told st slot') (scheduler sets' (with_seat s (seat st slot') slots)) a c
  stepped_turn st h put = by (h.is)
    where
      by : Whole slot sets st slot' sets' a b ⊎ BrokenOff slot sets st slot' sets' a b
          → TurnOr s (scheduler sets slots) (told st slot') (scheduler sets' (with_seat s (seat st slot') slots)) a c
      by (inl e) =
          let who : after_turn slot ((st, slot'.job), reached sets' slot') ≡ slot' =
          ap (λ (n : ℕ). let x : SlotState = record { number = n; account = slot.account; job = slot'.job; units = slot'.units } in x) (sym h.number)
          ∙ ap (λ (a : Account). let x : SlotState = record { number = slot'.number; account = a; job = slot'.job; units = slot'.units } in x) (sym h.account) in
          let one : turn_as None s (scheduler sets slots) ≡ (told st slot', scheduler sets' (with_seat s (seat st slot') slots)) =
          ap (λ (o : Option SlotState). turn_as_by None s o (scheduler sets slots)) is
          ∙ ap (λ (r : (Step × Job) × Reach). turned s r slot (scheduler sets slots)) e.is
          ∙ ap (λ (x : SlotState). let p : Turned × SchedulerState = (told st x, scheduler sets' (with_seat s (seat st x) slots)) in p) who in
          record {
            mark = None;
            is = one;
            audited = turn_put None st (whole_turn slot sets) refl (ap (λ (p : Turned × SchedulerState). p.0) one) e.audited put;
          }
      by (inr broken) =
          let m : Mark = broken.mark in
          let more : ℕ = statements_in (passed_at m slot sets) in
          let none : List (Option SlotState) = with_seat s None slots in
          let end : ℕ → List ℕ → ℕ → Turned × SchedulerState = λ n k c. (let e : JobEnd = record { number = n; account = k; spool = slot'.units.spool; notes = slot'.units.notes; ending = Memory; statements = c } in let p : Turned × SchedulerState = (Ended e, scheduler sets' none) in p) in
          let one : turn_as (Some m) s (scheduler sets slots) ≡ (told (step.Ended Memory) slot', scheduler sets' (with_seat s (seat (step.Ended Memory) slot') slots)) =
          ap (λ (o : Option SlotState). turn_as_by (Some m) s o (scheduler sets slots)) is
          ∙ ap (λ (t : Bool). turned s (broken_by t m slot sets) slot (scheduler sets slots)) broken.started
          ∙ ap (λ (v : Reach). turned s ((step.Ended Memory, counted more slot.job), v) slot (scheduler sets slots)) broken.left
          ∙ ap (λ (n : ℕ). end n slot.account.name (statements_begun (counted more slot.job))) (sym h.number)
          ∙ ap (λ (a : Account). end slot'.number a.name (statements_begun (counted more slot.job))) (sym h.account)
          ∙ ap (λ (n : ℕ). end slot'.number slot'.account.name n) (sym broken.counted) in
          let put_so : Puts b c (end_lines (told (step.Ended Memory) slot')) = subst (λ (k : Step). Puts b c (end_lines (told k slot'))) broken.memory put in
          subst (λ (k : Step). TurnOr s (scheduler sets slots) (told k slot') (scheduler sets' (with_seat s (seat k slot') slots)) a c) (sym broken.memory)
          (record {
            mark = Some m;
            is = one;
            audited = turn_put (Some m) (step.Ended Memory) (take (exchanges_at m slot sets) (whole_turn slot sets))
                (ap (λ (t : Bool). broken_turn t m slot sets) broken.started) (ap (λ (p : Turned × SchedulerState). p.0) one) broken.audited put_so;
          })

pub empty_turn : (s : ℕ) (w : SchedulerState) (a : Standing) → job_in s w ≡ None → TurnOr s w Empty w a a
empty_turn s w a none =
    let one : turn_as None s w ≡ (Empty, w) = ap (λ (o : Option SlotState). turn_as_by None s o w) none in
    record {
      mark = None;
      is = one;
      audited = puts_same a a [] (turn_lines None s w)
          (sym (ap (λ (o : Option SlotState). exchanged_lines (asked_in None o w.sets) ++ end_lines (turn_as None s w).0) none ∙ ap (λ (p : Turned × SchedulerState). end_lines p.0) one)) (puts_nothing a);
    }

-- a job that had a turn in its place
in_place : (i : ℕ) (sets sets' : Sets) (slots : List (Option SlotState)) (slot slot' : SlotState) (a b : Standing) → slice_get slots i ≡ Some (Some slot) → (st : Step)
    → Stepped slot sets st slot' sets' a b → StepOr (suc i) (scheduler sets slots) (Some st) (scheduler sets' (slice_set slots i (Some slot'))) a b
in_place i sets sets' slots slot slot' a b is step.Goes h = stepped_turn (suc i) sets sets' slots slot slot' a b b (ap option_flatten is) step.Goes h (puts_nothing b)
in_place i sets sets' slots slot slot' a b is (step.Ended e) h = record {
  slot = slot';
  there = ap option_flatten (get_set slots i (Some slot) (Some slot') is);
  turn = λ c put. subst (λ (l : List (Option SlotState)). TurnOr (suc i) (scheduler sets slots) (Ended (job_end slot' e)) (scheduler sets' l) a c) (sym (set_set slots i (Some slot') None))
      (stepped_turn (suc i) sets sets' slots slot slot' a b c (ap option_flatten is) (step.Ended e) h put);
}

-- a turn of the seat in its place
step_by : (i : ℕ) (sets sets' : Sets) (slots : List (Option SlotState)) (o seat' : Option SlotState) (r : Option Step) (a b : Standing) → slice_get slots i ≡ Some o
    → SeatStep o sets r seat' sets' a b → StepOr (suc i) (scheduler sets slots) r (scheduler sets' (slice_set slots i seat')) a b
step_by i sets sets' slots None seat' r a b is h =
    let same : slice_set slots i seat' ≡ slots = ap (slice_set slots i) h.1 ∙ set_get slots i None is in
    let one = empty_turn (suc i) (scheduler sets slots) a (ap option_flatten is) in
    subst (λ (u : Option Step). StepOr (suc i) (scheduler sets slots) u (scheduler sets' (slice_set slots i seat')) a b) (sym h.0)
    (subst (λ (l : List (Option SlotState)). TurnOr (suc i) (scheduler sets slots) Empty (scheduler sets' l) a b) (sym same)
    (subst (λ (v : Sets). TurnOr (suc i) (scheduler sets slots) Empty (scheduler v slots) a b) (sym h.2)
    (subst (λ (y : Standing). TurnOr (suc i) (scheduler sets slots) Empty (scheduler sets slots) a y) (sym h.3) one)))
step_by i sets sets' slots (Some slot) seat' r a b is h =
    let one = in_place i sets sets' slots slot h.after a b is h.step h.stepped in
    subst (λ (u : Option Step). StepOr (suc i) (scheduler sets slots) u (scheduler sets' (slice_set slots i seat')) a b) (sym h.tells)
    (subst (λ (o : Option SlotState). StepOr (suc i) (scheduler sets slots) (Some h.step) (scheduler sets' (slice_set slots i o)) a b) (sym h.stays) one)

seat_step : (i s : ℕ) (sets sets' : Sets) (slots : List (Option SlotState)) (o seat' : Option SlotState) (r : Option Step) (a b : Standing) → s ≡ suc i → slice_get slots i ≡ Some o
    → SeatStep o sets r seat' sets' a b → StepOr s (scheduler sets slots) r (scheduler sets' (slice_set slots i seat')) a b
seat_step i s sets sets' slots o seat' r a b e is h =
    subst (λ (n : ℕ). StepOr n (scheduler sets slots) r (scheduler sets' (slice_set slots i seat')) a b) (sym e) (step_by i sets sets' slots o seat' r a b is h)

-- how many jobs there are
set_jobs : (slots : List (Option SlotState)) (i : ℕ) (slot : SlotState) (o : Option SlotState) → option_flatten (slice_get slots i) ≡ Some slot
    → suc (jobs_in (slice_set slots i o)) ≡ one_in o + jobs_in slots
set_jobs [] i slot o h = absurd cc
set_jobs (x ∷ slots) zero slot o h =
    let e : x ≡ Some slot = h in
    subst (λ (y : Option SlotState). suc (one_in o + jobs_in slots) ≡ one_in o + (one_in y + jobs_in slots)) (sym e) (omega arith)
set_jobs (x ∷ slots) (suc i) slot o h = let k = set_jobs slots i slot o h in omega (arith, k)

pub with_jobs : (s : ℕ) (slots : List (Option SlotState)) (slot : SlotState) (o : Option SlotState) → seat_at s slots ≡ Some slot
    → suc (jobs_in (with_seat s o slots)) ≡ one_in o + jobs_in slots
with_jobs zero slots slot o h = absurd cc
with_jobs (suc i) slots slot o h = set_jobs slots i slot o h

step_jobs : (st : Step) (slot : SlotState) → one_in (seat st slot) + length (ended_in (told st slot)) ≡ 1
step_jobs step.Goes slot = refl
step_jobs (step.Ended e) slot = refl

jobs_by : (m : Option Mark) (s : ℕ) (w : SchedulerState) (o : Option SlotState) → job_in s w ≡ o
    → jobs_in (turn_as_by m s o w).1.slots + length (ended_in (turn_as_by m s o w).0) ≡ jobs_in w.slots
jobs_by m s w None is = omega arith
jobs_by m s w (Some slot) is =
    let r = ran_as m slot w.sets in
    let slot' = after_turn slot r in
    let one = step_jobs r.0.0 slot' in
    let all = with_jobs s w.slots slot (seat r.0.0 slot') is in
    omega (arith, one, all)

-- as many as before, but for the one that ended
pub turn_jobs : (s : ℕ) (w w' : SchedulerState) (t : Turned) (a b : Standing) → TurnOr s w t w' a b → jobs_in w'.slots + length (ended_in t) ≡ jobs_in w.slots
turn_jobs s w w' t a b h =
    subst (λ (p : Turned × SchedulerState). jobs_in p.1.slots + length (ended_in p.0) ≡ jobs_in w.slots) h.is (jobs_by h.mark s w (job_in s w) refl)

pub jobs_few : (slots : List (Option SlotState)) → jobs_in slots ≤ length slots
jobs_few [] = omega arith
jobs_few (None ∷ slots) = let k = jobs_few slots in omega (arith, k)
jobs_few (Some x ∷ slots) = let k = jobs_few slots in omega (arith, k)

-- the slots of the program
pub slots_step : (i s : ℕ) (sets sets' : Sets) (slots : List (Option Slot)) (o o' : Option Slot) (r : Option Step) (a b : Standing) → s ≡ suc i → slice_get slots i ≡ Some o
    → SeatStep (seat_of o) sets r (seat_of o') sets' a b → StepOr s (scheduler sets (seats_of slots)) r (scheduler sets' (seats_of (slice_set slots i o'))) a b
slots_step i s sets sets' slots o o' r a b e is h =
    subst (λ (l : List (Option SlotState)). StepOr s (scheduler sets (seats_of slots)) r (scheduler sets' l) a b) (sym (map_set seat_of slots i o'))
    (seat_step i s sets sets' (seats_of slots) (seat_of o) (seat_of o') r a b e (map_get seat_of slots i ∙ ap (option_map seat_of) is) h)

-- the seat of a slot of the program, once its index is known
pub record Found (s i : ℕ) (slots : List (Option Slot)) (o : Option Slot) : Type 0 where
  pub number : s ≡ suc i
  pub is : slice_get slots i ≡ Some o

pub found : (s i : ℕ) (slots : List (Option Slot)) (o : Option Slot) (r : Option ℕ) → r ≡ Some i → IfSome r (λ n. (s ≡ n + 1) × (n < length slots))
    → o ≡ slice_index_or slots i o → Found s i slots o
found s i slots o None e h value = absurd cc
found s i slots o (Some n) e h value =
    let same : n ≡ i = cc (e) in
    let at = subst (λ (k : ℕ). (s ≡ k + 1) × (k < length slots)) same h in
    let number = at.0 in
    record { number = omega (arith, number); is = slice_get_read slots (length slots) i o refl at.1 value }

pub some_seat : (o : Option Slot) → is_some o ≡ is_some (seat_of o)
some_seat None = refl
some_seat (Some x) = refl

pub some_in : (o : Option Slot) → IsSome (seat_of o) → IsSome o
some_in None h = absurd cc
some_in (Some x) h = refl

pub seat_is : (i s : ℕ) (slots : List (Option Slot)) (o : Option Slot) → s ≡ suc i → slice_get slots i ≡ Some o → seat_at s (seats_of slots) ≡ seat_of o
seat_is i s slots o e is = ap (λ (n : ℕ). seat_at n (seats_of slots)) e ∙ ap option_flatten (map_get seat_of slots i ∙ ap (option_map seat_of) is)

pub seat_emptied : (i s : ℕ) (slots : List (Option Slot)) (o : Option Slot) → s ≡ suc i → seat_of o ≡ None → seats_of (slice_set slots i o) ≡ with_seat s None (seats_of slots)
seat_emptied i s slots o e none =
    map_set seat_of slots i o ∙ ap (slice_set (seats_of slots) i) none ∙ ap (λ (n : ℕ). with_seat n None (seats_of slots)) (sym e)

-- a step by what it tells
pub went_on : (s : ℕ) (w w' : SchedulerState) (r : Option Step) (st : Step) (a b : Standing) → r ≡ Some st → st ≡ step.Goes → StepOr s w r w' a b → TurnOr s w Goes w' a b
went_on s w w' r st a b is goes h =
    subst (λ (o : Option Step). StepOr s w o w' a b) (is ∙ ap (λ (k : Step). let o : Option Step = Some k in o) goes) h

pub leaving : (s : ℕ) (w w' : SchedulerState) (r : Option Step) (st : Step) (e : Ending) (a b : Standing) → r ≡ Some st → st ≡ step.Ended e → StepOr s w r w' a b → Leaving s w e w' a b
leaving s w w' r st e a b is ended h =
    subst (λ (o : Option Step). StepOr s w o w' a b) (is ∙ ap (λ (k : Step). let o : Option Step = Some k in o) ended) h

-- a step, and then the job that has ended leaves, and its end has its line
pub stepped_out : (s : ℕ) (w v : SchedulerState) (e : Ending) (x : JobEnd) (slots' : List (Option SlotState)) (a b c : Standing) (h : Leaving s w e v a b) → x ≡ job_end h.slot e
    → slots' ≡ with_seat s None v.slots → Puts b c (ended_line x) → TurnOr s w (Ended x) (scheduler v.sets slots') a c
stepped_out s w v e x slots' a b c h is after put =
    subst (λ (l : List (Option SlotState)). TurnOr s w (Ended x) (scheduler v.sets l) a c) (sym after)
    (subst (λ (y : JobEnd). TurnOr s w (Ended y) (scheduler v.sets (with_seat s None v.slots)) a c) (sym is)
    (h.turn c (subst (λ (y : JobEnd). Puts b c (ended_line y)) is put)))

-- a sink takes any text, or has failed
any_put : (b : Standing) (text : List ℕ) → (c : Standing) × Puts b c text
any_put b text = by b.failed refl
  where
    by : (failed : Bool) → b.failed ≡ failed → (c : Standing) × Puts b c text
    by true e = (b, puts_failed b b text e refl)
    by false e = (record b { gathered = b.gathered ++ text }, puts_gathered b (record b { gathered = b.gathered ++ text }) text e refl)

-- its seat was one of those with a job
pub leaving_jobs : (s : ℕ) (w v : SchedulerState) (e : Ending) (a b : Standing) → Leaving s w e v a b → suc (jobs_in (with_seat s None v.slots)) ≡ jobs_in w.slots
leaving_jobs s w v e a b h =
    let put = any_put b (ended_line (job_end h.slot e)) in
    let k = turn_jobs s w (scheduler v.sets (with_seat s None v.slots)) (Ended (job_end h.slot e)) a put.0 (h.turn put.0 put.1) in
    omega (arith, k)
