-- A turn of a job, where what may differ is what its account may not see.
use Rattle.std.proofs.Common.{◌≡◌, ℕ, zero, suc, nat_eq, Bool, true, false, List, [], ◌∷◌, length, Option, Some, None, refl, ap, sym, ◌∙◌, subst, inl, inr, ◌⊎◌, slice_get, slice_set}
use Rattle.mon_monitor.proofs.Common.{IsDistinct, keys_of, pointwise, option_flatten, Account, Sets, Request, Step, requests_in, statements_in, Job, counted_turn, turn_of, UnitState, Reach, serve, Same, run_cut, run_alike, run_cut_alike, passed_alike, run_keeps_to_ties, cut_keeps_to_ties, SlotState, SchedulerState, seat_at, with_seat, job_in, reached, ran, after_turn, seat, told, Mark, passed_at, exchanges_at, counted, may_break, ran_as, turn_as, LooksAlike, Both, TiesFit, ReachesAgree, SchedulersAgree, TurnsAgree, turn_as_by, broken_by, Passed, Memory, Turned}
use Rattle.sno_run.specs.declared.ending.Step.TheVariants as step
use Rattle.mon_monitor.proofs.Requests.{requests_agree, ties_stay}

-- who is in a seat after one was changed
seated_after : (slots : List (Option SlotState)) (i j : ℕ) (o : Option SlotState) (x : SlotState)
    → option_flatten (slice_get (slice_set slots i o) j) ≡ Some x → (option_flatten (slice_get slots j) ≡ Some x) ⊎ (o ≡ Some x)
seated_after [] i j o x h = inl h
seated_after (z ∷ slots) zero zero o x h = inr h
seated_after (z ∷ slots) zero (suc j) o x h = inl h
seated_after (z ∷ slots) (suc i) zero o x h = inl h
seated_after (z ∷ slots) (suc i) (suc j) o x h = seated_after slots i j o x h

pub seat_after : (s t : ℕ) (o : Option SlotState) (slots : List (Option SlotState)) (x : SlotState)
    → seat_at t (with_seat s o slots) ≡ Some x → (seat_at t slots ≡ Some x) ⊎ (o ≡ Some x)
seat_after zero t o slots x h = inl h
seat_after (suc i) zero o slots x h = inl h
seat_after (suc i) (suc j) o slots x h = seated_after slots i j o x h

-- who goes on is the one that had the turn
pub seat_is : (st : Step) (slot x : SlotState) → seat st slot ≡ Some x → slot ≡ x
seat_is step.Goes slot x h = cc (h)
seat_is (step.Ended ending) slot x h = absurd cc

record RanAlike (account : Account) (sets others : Sets) (r k : (Step × Job) × Reach) : Type 0 where
  pub step : r.0 ≡ k.0
  pub after : ReachesAgree account r.1 k.1
  pub same : (n : List ℕ) → Same n sets others → Same n r.1.sets k.1.sets

-- what the exchanges of a turn keep
record Keeps (account : Account) (sets others : Sets) (w v : Reach) : Type 0 where
  pub agree : ReachesAgree account w v
  pub same : (n : List ℕ) → Same n sets others → Same n w.sets v.sets

module _ (account : Account) (sets others : Sets) (slot : SlotState) (own : slot.account ≡ account)
    (alike : Both (LooksAlike account) sets others) (ties : TiesFit sets others slot.units) where
  each : (w v : Reach) (q : Request) → Keeps account sets others w v
      → ((serve slot.account w q).0 ≡ (serve slot.account v q).0) × Keeps account sets others (serve slot.account w q).1 (serve slot.account v q).1
  each w v q k =
      let one = requests_agree account w v k.agree q in
      subst (λ (b : Account). ((serve b w q).0 ≡ (serve b v q).0) × Keeps account sets others (serve b w q).1 (serve b v q).1) (sym own)
      (one.answer, record { agree = one.after; same = λ n h. one.same n (k.same n h) })

  begin : Keeps account sets others (reached sets slot) (reached others slot)
  begin = record { agree = record { units = refl; sets = alike; ties = ties }; same = λ n h. h }

  whole_alike : RanAlike account sets others (ran slot sets) (ran slot others)
  whole_alike =
      let whole = run_alike (serve slot.account) (serve slot.account) (Keeps account sets others) each (turn_of slot.job) (reached sets slot) (reached others slot) begin in
      record { step = whole.0; after = whole.1.agree; same = whole.1.same }

  -- the turn over the others, where this has passed of it
  abbrev broken_with : List Passed → (Step × Job) × Reach
  broken_with x = ((step.Ended Memory, counted (statements_in x) slot.job), run_cut (serve slot.account) (length (requests_in x)) (turn_of slot.job) (reached others slot))

  broken_alike : (b : Bool) (m : Mark) → RanAlike account sets others (broken_by b m slot sets) (broken_by b m slot others)
  broken_alike false m = whole_alike
  broken_alike true m =
      let left = run_cut_alike (serve slot.account) (serve slot.account) (Keeps account sets others) each (exchanges_at m slot sets) (turn_of slot.job) (reached sets slot) (reached others slot) begin in
      let here : RanAlike account sets others (broken_by true m slot sets) (broken_with (passed_at m slot sets)) = record { step = refl; after = left.agree; same = left.same } in
      subst (λ (x : List Passed). RanAlike account sets others (broken_by true m slot sets) (broken_with x))
      (passed_alike (serve slot.account) (serve slot.account) (Keeps account sets others) each (suc m.moments) (counted_turn slot.job) (reached sets slot) (reached others slot) begin) here

  ran_alike : (m : Option Mark) → RanAlike account sets others (ran_as m slot sets) (ran_as m slot others)
  ran_alike None = whole_alike
  ran_alike (Some m) = broken_alike (may_break slot.job) m

broken_keys : (b : Bool) (m : Mark) (slot : SlotState) (sets : Sets) → keys_of (broken_by b m slot sets).1.sets ≡ keys_of sets
broken_keys false m slot sets = (run_keeps_to_ties slot.account (reached sets slot) (turn_of slot.job)).names
broken_keys true m slot sets = (cut_keeps_to_ties slot.account (reached sets slot) (exchanges_at m slot sets) (turn_of slot.job)).names

pub ran_as_keys : (m : Option Mark) (slot : SlotState) (sets : Sets) → keys_of (ran_as m slot sets).1.sets ≡ keys_of sets
ran_as_keys None slot sets = (run_keeps_to_ties slot.account (reached sets slot) (turn_of slot.job)).names
ran_as_keys (Some m) slot sets = broken_keys (may_break slot.job) m slot sets

pub record SchedulerTurn (account : Account) (t u : Turned × SchedulerState) : Type 0 where
  pub answer : t.0 ≡ u.0
  pub after : SchedulersAgree account t.1 u.1

module _ (account : Account) (w v : SchedulerState) (agree : SchedulersAgree account w v) where
  turn_by_agrees : (m : Option Mark) (s : ℕ) (o : Option SlotState) → job_in s w ≡ o → SchedulerTurn account (turn_as_by m s o w) (turn_as_by m s o v)
  turn_by_agrees m s None e = record { answer = refl; after = agree }
  turn_by_agrees m s (Some slot) e =
      let r = ran_as m slot w.sets in
      let k = ran_as m slot v.sets in
      let t = ran_alike account w.sets v.sets slot (agree.own s slot e) agree.sets (agree.ties s slot e) m in
      let steps : r.0.0 ≡ k.0.0 = ap (λ (p : Step × Job). p.0) t.step in
      let slots : after_turn slot r ≡ after_turn slot k =
      ap (λ (p : Step × Job). let x : SlotState = record slot { job = p.1; units = r.1.units } in x) t.step
      ∙ ap (λ (u : UnitState). let x : SlotState = record slot { job = k.0.1; units = u } in x) t.after.units in
      let seats : seat r.0.0 (after_turn slot r) ≡ seat k.0.0 (after_turn slot k) =
      ap (λ (st : Step). seat st (after_turn slot r)) steps ∙ ap (seat k.0.0) slots in
      record {
        answer = ap (λ (st : Step). told st (after_turn slot r)) steps ∙ ap (told k.0.0) slots;
        after = record {
          slots = ap (λ (x : Option SlotState). with_seat s x w.slots) seats ∙ ap (with_seat s (seat k.0.0 (after_turn slot k))) agree.slots;
          own = λ i x is. elim (seat_after s i (seat r.0.0 (after_turn slot r)) w.slots x is) [
            | inl was ↦ agree.own i x was
            | inr now ↦ ap (λ (y : SlotState). y.account) (sym (seat_is r.0.0 (after_turn slot r) x now)) ∙ agree.own s slot e
          ];
          names = subst (IsDistinct (pointwise nat_eq)) (sym (ran_as_keys m slot w.sets)) agree.names;
          sets = t.after.sets;
          ties = λ i x is. elim (seat_after s i (seat r.0.0 (after_turn slot r)) w.slots x is) [
            | inl was ↦ ties_stay w.sets v.sets r.1.sets k.1.sets x.units t.same (agree.ties i x was)
            | inr now ↦ subst (λ (y : SlotState). TiesFit r.1.sets k.1.sets y.units) (seat_is r.0.0 (after_turn slot r) x now) t.after.ties
          ];
        };
      }

  pub scheduler_turn : (m : Option Mark) (s : ℕ) → SchedulerTurn account (turn_as m s w) (turn_as m s v)
  scheduler_turn m s =
      subst (λ (o : Option SlotState). SchedulerTurn account (turn_as m s w) (turn_as_by m s o v)) (ap (seat_at s) agree.slots)
      (turn_by_agrees m s (job_in s w) refl)

pub turns_agree : TurnsAgree
turns_agree account w v agree m s =
    let one = scheduler_turn account w.scheduler v.scheduler agree.scheduler m s in
    record { answer = one.answer; after = record { accounts = agree.accounts; known = agree.known; scheduler = one.after } }
