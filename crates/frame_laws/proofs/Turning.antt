-- Turns of jobs over all data sets, and over those alone whose names pass.
use Rattle.std.proofs.Common.{◌≡◌, ℕ, suc, Bool, true, false, List, [], ◌∷◌, ◌++◌, length, Option, Some, None, refl, ap, sym, ◌∙◌, subst, inl, inr, drop}
use Rattle.mon_monitor.proofs.Common.{Sets, Step, Job, requests_in, statements_in, counted_turn, turn_of, UnitState, Reach, serve, run_cut, run_alike, run_cut_alike, passed_alike, SlotState, SchedulerState, seat_at, with_seat, job_in, reached, ran, after_turn, seat, told, Mark, Marks, mark_of, passed_at, exchanges_at, counted, may_break, ran_as, turn_as, turn_as_by, broken_by, Passed, Memory, Turned, Past, nothing, until, rounds, turns_left, rounds_until, ends_by, ends_then, either_way, until_stops, until_goes, JobEnd}
use Rattle.sno_run.specs.declared.ending.Step.TheVariants as step
use Rattle.mon_monitor.proofs.Turning.{seat_after, seat_is}
use Rattle.frame_laws.proofs.Serving.{Beside, Passes, ReachesStand, each}

-- a turn: the step and the job then, and what the job reaches
record RanBeside (p : List ℕ → Bool) (rest : Sets) (n : ℕ) (whole alone : (Step × Job) × Reach) : Type 0 where
  pub step : whole.0 ≡ alone.0
  pub after : ReachesStand p rest n whole.1 alone.1

-- the same jobs in the same slots, whose units are tied to what passes
pub record SchedulersStand (p : List ℕ → Bool) (rest : Sets) (n : ℕ) (whole alone : SchedulerState) : Type 0 where
  pub slots : whole.slots ≡ alone.slots
  pub sets : Beside p rest n whole.sets alone.sets
  pub tied : (s : ℕ) (slot : SlotState) → job_in s whole ≡ Some slot → Passes p slot.units

record TurnBeside (p : List ℕ → Bool) (rest : Sets) (n : ℕ) (whole alone : Turned × SchedulerState) : Type 0 where
  pub answer : whole.0 ≡ alone.0
  pub after : SchedulersStand p rest n whole.1 alone.1

pub record PastBeside (p : List ℕ → Bool) (rest : Sets) (n : ℕ) (whole alone : Past) : Type 0 where
  pub ends : whole.ends ≡ alone.ends
  pub marks : whole.marks ≡ alone.marks
  pub after : SchedulersStand p rest n whole.after alone.after

module _ (p : List ℕ → Bool) (rest : Sets) (n : ℕ) where
  module _ (slot : SlotState) (sets alone : Sets) (tied : Passes p slot.units) (h : Beside p rest n sets alone) where
    begin : ReachesStand p rest n (reached sets slot) (reached alone slot)
    begin = record { units = refl; sets = h; tied = tied }

    whole_beside : RanBeside p rest n (ran slot sets) (ran slot alone)
    whole_beside =
        let whole = run_alike (serve slot.account) (serve slot.account) (ReachesStand p rest n) (each p rest n slot.account) (turn_of slot.job) (reached sets slot) (reached alone slot) begin in
        record { step = whole.0; after = whole.1 }

    -- the turn over those alone, where this has passed of it
    abbrev broken_with : List Passed → (Step × Job) × Reach
    broken_with x = ((step.Ended Memory, counted (statements_in x) slot.job), run_cut (serve slot.account) (length (requests_in x)) (turn_of slot.job) (reached alone slot))

    broken_beside : (b : Bool) (m : Mark) → RanBeside p rest n (broken_by b m slot sets) (broken_by b m slot alone)
    broken_beside false m = whole_beside
    broken_beside true m =
        let left = run_cut_alike (serve slot.account) (serve slot.account) (ReachesStand p rest n) (each p rest n slot.account) (exchanges_at m slot sets) (turn_of slot.job)
        (reached sets slot) (reached alone slot) begin in
        let here : RanBeside p rest n (broken_by true m slot sets) (broken_with (passed_at m slot sets)) = record { step = refl; after = left } in
        subst (λ (x : List Passed). RanBeside p rest n (broken_by true m slot sets) (broken_with x))
        (passed_alike (serve slot.account) (serve slot.account) (ReachesStand p rest n) (each p rest n slot.account) (suc m.moments) (counted_turn slot.job) (reached sets slot) (reached alone slot) begin) here

    ran_beside : (m : Option Mark) → RanBeside p rest n (ran_as m slot sets) (ran_as m slot alone)
    ran_beside None = whole_beside
    ran_beside (Some m) = broken_beside (may_break slot.job) m

  module _ (w v : SchedulerState) (h : SchedulersStand p rest n w v) where
    turn_by_beside : (m : Option Mark) (s : ℕ) (o : Option SlotState) → job_in s w ≡ o → TurnBeside p rest n (turn_as_by m s o w) (turn_as_by m s o v)
    turn_by_beside m s None e = record { answer = refl; after = h }
    turn_by_beside m s (Some slot) e =
        let r = ran_as m slot w.sets in
        let k = ran_as m slot v.sets in
        let t = ran_beside slot w.sets v.sets (h.tied s slot e) h.sets m in
        let steps : r.0.0 ≡ k.0.0 = ap (λ (x : Step × Job). x.0) t.step in
        let slots : after_turn slot r ≡ after_turn slot k =
        ap (λ (x : Step × Job). let y : SlotState = record slot { job = x.1; units = r.1.units } in y) t.step
        ∙ ap (λ (u : UnitState). let y : SlotState = record slot { job = k.0.1; units = u } in y) t.after.units in
        let seats : seat r.0.0 (after_turn slot r) ≡ seat k.0.0 (after_turn slot k) =
        ap (λ (st : Step). seat st (after_turn slot r)) steps ∙ ap (seat k.0.0) slots in
        record {
          answer = ap (λ (st : Step). told st (after_turn slot r)) steps ∙ ap (told k.0.0) slots;
          after = record {
            slots = ap (λ (x : Option SlotState). with_seat s x w.slots) seats ∙ ap (with_seat s (seat k.0.0 (after_turn slot k))) h.slots;
            sets = t.after.sets;
            tied = λ i x is. elim (seat_after s i (seat r.0.0 (after_turn slot r)) w.slots x is) [
              | inl was ↦ h.tied i x was
              | inr now ↦ subst (λ (y : SlotState). Passes p y.units) (seat_is r.0.0 (after_turn slot r) x now) t.after.tied
            ];
          };
        }

    turn_beside : (m : Option Mark) (s : ℕ) → TurnBeside p rest n (turn_as m s w) (turn_as m s v)
    turn_beside m s =
        subst (λ (o : Option SlotState). TurnBeside p rest n (turn_as m s w) (turn_as_by m s o v)) (ap (seat_at s) h.slots)
        (turn_by_beside m s (job_in s w) refl)

  module _ (stop : SchedulerState → Bool) (same : (w v : SchedulerState) → w.slots ≡ v.slots → stop w ≡ stop v) where
    pub until_beside : (E : List ℕ) (m : Marks) (w v : SchedulerState) → SchedulersStand p rest n w v → PastBeside p rest n (until stop E m w) (until stop E m v)
    until_beside [] m w v h = record { ends = refl; marks = refl; after = h }
    until_beside (s ∷ E) m w v h = elim (either_way (stop w)) [
      | inl stops ↦
          subst (λ (x : Past). PastBeside p rest n x (until stop (s ∷ E) m v)) (sym (until_stops stop (s ∷ E) m w stops))
          (subst (λ (x : Past). PastBeside p rest n (nothing m w) x) (sym (until_stops stop (s ∷ E) m v (sym (same w v h.slots) ∙ stops)))
          (record { ends = refl; marks = refl; after = h }))
      | inr goes ↦
          let t = turn_as (mark_of m) s w in
          let u = turn_as (mark_of m) s v in
          let one = turn_beside w v h (mark_of m) s in
          let later = until_beside E (drop 1 m) t.1 u.1 one.after in
          subst (λ (x : Past). PastBeside p rest n x (until stop (s ∷ E) m v)) (sym (until_goes stop s E m w goes))
          (subst (λ (x : Past). PastBeside p rest n (ends_then (ends_by s t.0) (until stop E (drop 1 m) t.1)) x) (sym (until_goes stop s E m v (sym (same w v h.slots) ∙ goes)))
          (record {
            ends = ap (λ (r : Turned). ends_by s r ++ (until stop E (drop 1 m) t.1).ends) one.answer ∙ ap (λ (l : List (ℕ × JobEnd)). ends_by s u.0 ++ l) later.ends;
            marks = later.marks;
            after = later.after;
          }))
    ]

    pub rounds_beside : (m : Marks) (w v : SchedulerState) → SchedulersStand p rest n w v → PastBeside p rest n (rounds_until stop m w) (rounds_until stop m v)
    rounds_beside m w v h =
        subst (λ (l : List (Option SlotState)). PastBeside p rest n (rounds_until stop m w) (until stop (rounds (turns_left l) (length l)) m v)) h.slots
        (until_beside (rounds (turns_left w.slots) (length w.slots)) m w v h)
