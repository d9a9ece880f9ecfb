-- A job on data sets of its own does what it does alone.
use Rattle.std.proofs.Common.{◌≡◌, ◌≢◌, ℕ, zero, suc, ◌≤◌, nat_le, Bool, true, false, List, [], ◌∷◌, ◌++◌, length, eq-eqb, Option, Some, None, Result, Ok, Err, refl, ap, sym, ◌∙◌, subst, inl, inr, arith, ◌⊎◌, ◌==◌, nat_eq, if◌then◌else◌, map, slice_get, slice_set, Vec, IfOk, drop, replicate}
use Rattle.mon_monitor.proofs.Common.{nat_tests, eqb_tells, pointwise, keys_of, IsDistinct, AllByRecursion, option_flatten, Sets, find_set, NamesDiffer, Request, Step, Job, turn_of, Target, Untied, Data, Spool, Set, UnitState, Reach, set_of, serve, Same, targets, TiedTo, run_alike, one_look, looks_at_tied, targets_stay, run_keeps_to_ties, JobEnd, Empty, SlotState, SchedulerState, seat_at, with_seat, job_in, reached, ran, after_turn, job_end, seat, told, turn_by, ends_by, turns, Marks, mark_of, turn_as, Past, until, never, marked, rounds, turns_left, is_done, drain, ends_then, NoneByMemory, Standing, UntilIs, MarkedIs, DrainIs, either_way, until_stops, until_goes, marks_end_jobs, unmarked, drain_empties, Independent, turns_given, of_slot, AsAlone, EndsAlone, AnySchedule, Settles, InAnyOrder, DrainedInAnyOrder, looked, Memory, Turned, Goes}
use Rattle.sno_run.specs.declared.ending.Step.TheVariants as step
use Rattle.job_end.specs.declared.turned.Turned.TheVariants.{Ended}
use Rattle.scheduler.specs.Turns.{turn, Course}
use Rattle.mon_monitor.proofs.{Names.{tell_name, same_lists}, Turning.{seat_after, seat_is}}

-- seats
seat_same : (s : ℕ) (o : Option SlotState) (slots : List (Option SlotState)) (slot : SlotState) → seat_at s slots ≡ Some slot → seat_at s (with_seat s o slots) ≡ o
seat_same zero o slots slot h = absurd cc
seat_same (suc i) o slots slot h = at slots i h
  where
    at : (l : List (Option SlotState)) (i : ℕ) → option_flatten (slice_get l i) ≡ Some slot → option_flatten (slice_get (slice_set l i o) i) ≡ o
    at [] i h = absurd cc
    at (x ∷ l) zero h = refl
    at (x ∷ l) (suc i) h = at l i h

seat_other : (s t : ℕ) (o : Option SlotState) (slots : List (Option SlotState)) → t ≢ s → seat_at t (with_seat s o slots) ≡ seat_at t slots
seat_other zero t o slots h = refl
seat_other (suc i) zero o slots h = refl
seat_other (suc i) (suc j) o slots h = at slots i j (λ e. h (ap suc e))
  where
    at : (l : List (Option SlotState)) (i j : ℕ) → j ≢ i → option_flatten (slice_get (slice_set l i o) j) ≡ option_flatten (slice_get l j)
    at [] i j h = refl
    at (x ∷ l) zero zero h = absurd (h refl)
    at (x ∷ l) zero (suc j) h = refl
    at (x ∷ l) (suc i) zero h = refl
    at (x ∷ l) (suc i) (suc j) h = at l i j (λ e. h (ap suc e))

-- units with the same targets are tied to the same sets
tied_by : (u v : UnitState) (n : List ℕ) → targets u ≡ targets v → TiedTo u n → TiedTo v n
tied_by u v n e h = (h.0, ap (λ (l : List Target). slice_get l h.0) (sym e) ∙ h.1)

-- one turn
record RanSame (slot : SlotState) (sets others : Sets) : Type 0 where
  pub step : (ran slot sets).0 ≡ (ran slot others).0
  pub units : (ran slot sets).1.units ≡ (ran slot others).1.units
  pub same : (n : List ℕ) → Same n sets others → Same n (ran slot sets).1.sets (ran slot others).1.sets

record Keeps (slot : SlotState) (sets others : Sets) (w v : Reach) : Type 0 where
  pub units : w.units ≡ v.units
  pub targets : targets w.units ≡ targets slot.units
  pub same : (n : List ℕ) → Same n sets others → Same n w.sets v.sets

module _ (slot : SlotState) where
  ran_targets : (sets : Sets) → targets (ran slot sets).1.units ≡ targets slot.units
  ran_targets sets = (run_keeps_to_ties slot.account (reached sets slot) (turn_of slot.job)).targets

  ran_other : (sets : Sets) (n : List ℕ) → (¬ TiedTo slot.units n) → Same n (ran slot sets).1.sets sets
  ran_other sets n h = (run_keeps_to_ties slot.account (reached sets slot) (turn_of slot.job)).others n h

  ran_keys : (sets : Sets) → keys_of (ran slot sets).1.sets ≡ keys_of sets
  ran_keys sets = (run_keeps_to_ties slot.account (reached sets slot) (turn_of slot.job)).names

  -- where the sets that it is tied to are the same, a turn is the same, and what was the same stays so
  module _ (sets others : Sets) (own : (n : List ℕ) → TiedTo slot.units n → Same n sets others) where
    seen_alike : (w v : Reach) (q : Request) → Keeps slot sets others w v → looked (set_of w.units q) w.sets ≡ looked (set_of w.units q) v.sets
    seen_alike w v q k = by (set_of w.units q) refl
      where
        by : (o : Option (List ℕ)) → set_of w.units q ≡ o → looked o w.sets ≡ looked o v.sets
        by None e = refl
        by (Some n) e = k.same n (own n (tied_by w.units slot.units n k.targets (looks_at_tied w.units q n e)))

    each : (w v : Reach) (q : Request) → Keeps slot sets others w v
        → ((serve slot.account w q).0 ≡ (serve slot.account v q).0) × Keeps slot sets others (serve slot.account w q).1 (serve slot.account v q).1
    each w v q k =
        let one = one_look slot.account w.units q w.sets v.sets (seen_alike w v q k) in
        subst (λ (u : UnitState). ((serve slot.account w q).0 ≡ (serve slot.account (record { sets = v.sets; units = u }) q).0)
        × Keeps slot sets others (serve slot.account w q).1 (serve slot.account (record { sets = v.sets; units = u }) q).1) k.units
        (one.answer, record { units = one.units; targets = targets_stay slot.account w q ∙ k.targets; same = λ n h. one.same n (k.same n h) })

    ran_same : RanSame slot sets others
    ran_same =
        let whole = run_alike (serve slot.account) (serve slot.account) (Keeps slot sets others) each (turn_of slot.job) (reached sets slot) (reached others slot)
        (record { units = refl; targets = refl; same = λ n h. h }) in
        record { step = whole.0; units = whole.1.units; same = whole.1.same }

-- two schedulers are one to the job in slot s, whose sets are in T
record Like (s : ℕ) (T : List ℕ → Type 0) (w v : SchedulerState) : Type 0 where
  pub job : job_in s w ≡ job_in s v
  pub same : (n : List ℕ) → T n → Same n w.sets v.sets
  pub own : (slot : SlotState) → job_in s w ≡ Some slot → (n : List ℕ) → TiedTo slot.units n → T n
  pub others : (t : ℕ) (slot : SlotState) → t ≢ s → job_in t w ≡ Some slot → (n : List ℕ) → T n → ¬ TiedTo slot.units n

-- who goes on is tied to what it was
still_tied : (slot x : SlotState) (sets : Sets) (n : List ℕ) → seat (ran slot sets).0.0 (after_turn slot (ran slot sets)) ≡ Some x → TiedTo x.units n → TiedTo slot.units n
still_tied slot x sets n now t =
    let r = ran slot sets in
    tied_by r.1.units slot.units n (ran_targets slot sets) (subst (λ (y : SlotState). TiedTo y.units n) (sym (seat_is r.0.0 (after_turn slot r) x now)) t)

module _ (s : ℕ) (T : List ℕ → Type 0) (w v : SchedulerState) (like : Like s T w v) where
  own_by : (o : Option SlotState) → job_in s w ≡ o → job_in s v ≡ o
      → ((turn_by s o w).0 ≡ (turn_by s o v).0) × Like s T (turn_by s o w).1 (turn_by s o v).1
  own_by None e f = (refl, like)
  own_by (Some slot) e f =
      let r = ran slot w.sets in
      let k = ran slot v.sets in
      let one = ran_same slot w.sets v.sets (λ n t. like.same n (like.own slot e n t)) in
      let steps : r.0.0 ≡ k.0.0 = ap (λ (p : Step × Job). p.0) one.step in
      let slots : after_turn slot r ≡ after_turn slot k =
      ap (λ (p : Step × Job). let x : SlotState = record slot { job = p.1; units = r.1.units } in x) one.step
      ∙ ap (λ (u : UnitState). let x : SlotState = record slot { job = k.0.1; units = u } in x) one.units in
      let seats : seat r.0.0 (after_turn slot r) ≡ seat k.0.0 (after_turn slot k) =
      ap (λ (st : Step). seat st (after_turn slot r)) steps ∙ ap (seat k.0.0) slots in (
        ap (λ (st : Step). told st (after_turn slot r)) steps ∙ ap (told k.0.0) slots,
        record {
          job = seat_same s (seat r.0.0 (after_turn slot r)) w.slots slot e ∙ seats ∙ sym (seat_same s (seat k.0.0 (after_turn slot k)) v.slots slot f);
          same = λ n t. one.same n (like.same n t);
          own = λ x is n t. elim (seat_after s s (seat r.0.0 (after_turn slot r)) w.slots x is) [
            | inl was ↦ like.own x was n t
            | inr now ↦ like.own slot e n (still_tied slot x w.sets n now t)
          ];
          others = λ t x ne is n h. like.others t x ne (sym (seat_other s t (seat r.0.0 (after_turn slot r)) w.slots ne) ∙ is) n h;
        },
      )

  own_turn : ((turn s w).0 ≡ (turn s v).0) × Like s T (turn s w).1 (turn s v).1
  own_turn = subst (λ (o : Option SlotState). ((turn s w).0 ≡ (turn_by s o v).0) × Like s T (turn s w).1 (turn_by s o v).1) like.job
      (own_by (job_in s w) refl (sym like.job))

  other_by : (t : ℕ) → t ≢ s → (o : Option SlotState) → job_in t w ≡ o → Like s T (turn_by t o w).1 v
  other_by t ne None e = like
  other_by t ne (Some slot) e =
      let r = ran slot w.sets in
      let here : seat_at s (with_seat t (seat r.0.0 (after_turn slot r)) w.slots) ≡ job_in s w =
      seat_other t s (seat r.0.0 (after_turn slot r)) w.slots (λ (q : s ≡ t). ne (sym q)) in
      record {
        job = here ∙ like.job;
        same = λ n h. ran_other slot w.sets n (like.others t slot ne e n h) ∙ like.same n h;
        own = λ x is n h. like.own x (sym here ∙ is) n h;
        others = λ u x nu is n h. elim (seat_after t u (seat r.0.0 (after_turn slot r)) w.slots x is) [
          | inl was ↦ like.others u x nu was n h
          | inr now ↦ λ k. like.others t slot ne e n h (still_tied slot x w.sets n now k)
        ];
      }

  other_turn : (t : ℕ) → t ≢ s → Like s T (turn t w).1 v
  other_turn t ne = other_by t ne (job_in t w) refl

of_slot_own : (s : ℕ) (r : Turned) (ends : List (ℕ × JobEnd)) → of_slot s (ends_by s r ++ ends) ≡ ends_by s r ++ of_slot s ends
of_slot_own s Empty ends = refl
of_slot_own s Goes ends = refl
of_slot_own s (Ended e) ends = let t : (s == s) ≡ true = eq-eqb s s refl in rw t refl

of_slot_other : (s t : ℕ) (r : Turned) (ends : List (ℕ × JobEnd)) → t ≢ s → of_slot s (ends_by t r ++ ends) ≡ of_slot s ends
of_slot_other s t Empty ends ne = refl
of_slot_other s t Goes ends ne = refl
of_slot_other s t (Ended e) ends ne = grind (arith, nat_tests)

given_same : (s : ℕ) (E : List ℕ) → turns_given s (s ∷ E) ≡ suc (turns_given s E)
given_same s E = let e : (s == s) ≡ true = eq-eqb s s refl in rw e refl

given_other : (s t : ℕ) (E : List ℕ) → t ≢ s → turns_given s (t ∷ E) ≡ turns_given s E
given_other s t E ne = grind (arith, nat_tests)

-- the turns of slot s among others are its turns alone
project : (s : ℕ) (T : List ℕ → Type 0) (E : List ℕ) (w v : SchedulerState) → Like s T w v
    → (of_slot s (turns E w).ends ≡ (turns (replicate (turns_given s E) s) v).ends)
    × Like s T (turns E w).after (turns (replicate (turns_given s E) s) v).after
project s T [] w v like = (refl, like)
project s T (t ∷ E) w v like = elim (eqb_tells t s) [
  | inl q ↦
      let one = own_turn s T w v like in
      let rest = project s T E (turn s w).1 (turn s v).1 one.1 in
      subst (λ (k : ℕ). (of_slot s (turns (k ∷ E) w).ends ≡ (turns (replicate (turns_given s (k ∷ E)) s) v).ends)
      × Like s T (turns (k ∷ E) w).after (turns (replicate (turns_given s (k ∷ E)) s) v).after) (sym q.1)
      (subst (λ (n : ℕ). (of_slot s (turns (s ∷ E) w).ends ≡ (turns (replicate n s) v).ends) × Like s T (turns (s ∷ E) w).after (turns (replicate n s) v).after) (sym (given_same s E)) (
        of_slot_own s (turn s w).0 (turns E (turn s w).1).ends
            ∙ ap (λ (r : Turned). ends_by s r ++ of_slot s (turns E (turn s w).1).ends) one.0
            ∙ ap (λ (l : List (ℕ × JobEnd)). ends_by s (turn s v).0 ++ l) rest.0,
        rest.1,
      ))
  | inr q ↦
      let rest = project s T E (turn t w).1 v (other_turn s T w v like t q.1) in
      subst (λ (n : ℕ). (of_slot s (turns (t ∷ E) w).ends ≡ (turns (replicate n s) v).ends) × Like s T (turns (t ∷ E) w).after (turns (replicate n s) v).after) (sym (given_other s t E q.1))
      (of_slot_other s t (turn t w).0 (turns E (turn t w).1).ends q.1 ∙ rest.0, rest.1)
]

-- the sets that the job in slot s is tied to
abbrev Ties : SchedulerState → ℕ → List ℕ → Type 0
Ties w s n = (slot : SlotState) × (job_in s w ≡ Some slot) × TiedTo slot.units n

like_itself : (w : SchedulerState) → Independent w → (s : ℕ) → Like s (Ties w s) w w
like_itself w apart s = record {
  job = refl;
  same = λ n h. refl;
  own = λ slot is n t. (slot, is, t);
  others = λ t slot ne is n h. apart s t h.0 slot (λ (e : s ≡ t). ne (sym e)) h.1 is n h.2;
}

pub each_as_alone : (w : SchedulerState) → Independent w → (E : List ℕ) (s : ℕ) → AsAlone w E s
each_as_alone w apart E s =
    let whole = project s (Ties w s) E w w (like_itself w apart s) in
    record {
      ends = whole.0;
      job = whole.1.job;
      sets = λ slot is n t. whole.1.same n (slot, is, t);
    }

-- an empty slot stays empty
no_turns : (s k : ℕ) (v : SchedulerState) → job_in s v ≡ None → turns (replicate k s) v ≡ (let r : Course = record { ends = []; after = v } in r)
no_turns s zero v h = refl
no_turns s (suc k) v h =
    let one : turn s v ≡ (Empty, v) = ap (λ (o : Option SlotState). turn_by s o v) h in
    ap (λ (p : Turned × SchedulerState). let r : Course = record { ends = ends_by s p.0 ++ (turns (replicate k s) p.1).ends; after = (turns (replicate k s) p.1).after } in r) one
    ∙ no_turns s k v h

-- more turns change nothing once the job has ended
settled : (s n m : ℕ) (v : SchedulerState) → n ≤ m → job_in s (turns (replicate n s) v).after ≡ None → turns (replicate m s) v ≡ turns (replicate n s) v
settled s zero m v le h = no_turns s m v h
settled s (suc n) zero v le h = absurd (omega (arith, le))
settled s (suc n) (suc m) v le h =
    ap (λ (x : Course). let r : Course = record { ends = ends_by s (turn s v).0 ++ x.ends; after = x.after } in r) (settled s n m (turn s v).1 (omega (arith, le)) h)

either_more : (s n m : ℕ) (v : SchedulerState) → job_in s (turns (replicate n s) v).after ≡ None → job_in s (turns (replicate m s) v).after ≡ None
    → turns (replicate n s) v ≡ turns (replicate m s) v
either_more s n m v h g = elim (le_or n m) [
  | inl le ↦ sym (settled s n m v le h)
  | inr le ↦ settled s m n v le g
]
  where
    le_or : (n m : ℕ) → (n ≤ m) ⊎ (m ≤ n)
    le_or n m = by (nat_le n m) refl
      where
        by : (b : Bool) → nat_le n m ≡ b → (n ≤ m) ⊎ (m ≤ n)
        by true e = inl (grind (arith, e))
        by false e = inr (grind (arith, e))

-- whether some job is tied to a set
tied_target : (n : List ℕ) (l : List Target) → ((u : ℕ) × (slice_get l u ≡ Some (Set n))) ⊎ ((u : ℕ) → ¬ (slice_get l u ≡ Some (Set n)))
tied_target n [] = inr (λ u h. absurd cc)
tied_target n (x ∷ l) = elim (here x) [
  | inl h ↦ inl (zero, ap (λ (t : Target). Some t) h)
  | inr h ↦ elim (tied_target n l) [
    | inl g ↦ inl (suc g.0, g.1)
    | inr g ↦ inr (by h g)
  ]
]
  where
    here : (x : Target) → (x ≡ Set n) ⊎ (¬ (x ≡ Set n))
    here Untied = inr (λ h. cc)
    here Data = inr (λ h. cc)
    here Spool = inr (λ h. cc)
    here (Set m) = elim (tell_name m n) [
      | inl q ↦ inl (ap (λ (k : List ℕ). Set k) q.0)
      | inr q ↦ inr (λ h. q.0 (cc (h)))
    ]

    by : (¬ (x ≡ Set n)) → ((u : ℕ) → ¬ (slice_get l u ≡ Some (Set n))) → (u : ℕ) → ¬ (slice_get (x ∷ l) u ≡ Some (Set n))
    by h g zero = λ e. h (cc (e))
    by h g (suc u) = g u

tied_in : (n : List ℕ) (slots : List (Option SlotState))
    → ((s : ℕ) × (slot : SlotState) × (option_flatten (slice_get slots s) ≡ Some slot) × TiedTo slot.units n)
    ⊎ ((s : ℕ) (slot : SlotState) → option_flatten (slice_get slots s) ≡ Some slot → ¬ TiedTo slot.units n)
tied_in n [] = inr (λ s slot h. absurd cc)
tied_in n (None ∷ slots) = elim (tied_in n slots) [
  | inl h ↦ inl (suc h.0, h.1, h.2, h.3)
  | inr h ↦ inr (by h)
]
  where
    by : ((s : ℕ) (slot : SlotState) → option_flatten (slice_get slots s) ≡ Some slot → ¬ TiedTo slot.units n)
        → (s : ℕ) (slot : SlotState) → option_flatten (slice_get (None ∷ slots) s) ≡ Some slot → ¬ TiedTo slot.units n
    by h zero slot e = absurd cc
    by h (suc s) slot e = h s slot e
tied_in n (Some x ∷ slots) = elim (tied_target n (targets x.units)) [
  | inl t ↦ inl (zero, x, refl, (t.0, t.1))
  | inr t ↦ elim (tied_in n slots) [
    | inl h ↦ inl (suc h.0, h.1, h.2, h.3)
    | inr h ↦ inr (by t h)
  ]
]
  where
    by : ((u : ℕ) → ¬ (slice_get (targets x.units) u ≡ Some (Set n))) → ((s : ℕ) (slot : SlotState) → option_flatten (slice_get slots s) ≡ Some slot → ¬ TiedTo slot.units n)
        → (s : ℕ) (slot : SlotState) → option_flatten (slice_get (Some x ∷ slots) s) ≡ Some slot → ¬ TiedTo slot.units n
    by t h zero slot e = λ k. t k.0 (ap (λ (y : SlotState). slice_get (targets y.units) k.0) (let same : x ≡ slot = cc (e) in same) ∙ k.1)
    by t h (suc s) slot e = h s slot e

-- a set that no job is tied to stays
record IsFree (n : List ℕ) (w : SchedulerState) : Type 0 where
  pub none : (s : ℕ) (slot : SlotState) → job_in s w ≡ Some slot → ¬ TiedTo slot.units n

tied_or_not : (n : List ℕ) (w : SchedulerState) → ((s : ℕ) × (slot : SlotState) × (job_in s w ≡ Some slot) × TiedTo slot.units n) ⊎ IsFree n w
tied_or_not n w = elim (tied_in n w.slots) [
  | inl h ↦ inl (suc h.0, h.1, h.2, h.3)
  | inr h ↦ inr (record { none = by h })
]
  where
    by : ((s : ℕ) (slot : SlotState) → option_flatten (slice_get w.slots s) ≡ Some slot → ¬ TiedTo slot.units n)
        → (s : ℕ) (slot : SlotState) → seat_at s w.slots ≡ Some slot → ¬ TiedTo slot.units n
    by h zero slot e = absurd cc
    by h (suc i) slot e = h i slot e

untied_turn : (n : List ℕ) (s : ℕ) (w : SchedulerState) → IsFree n w → (o : Option SlotState) → job_in s w ≡ o → Same n (turn_by s o w).1.sets w.sets × IsFree n (turn_by s o w).1
untied_turn n s w un None e = (refl, un)
untied_turn n s w un (Some slot) e =
    let r = ran slot w.sets in (
      ran_other slot w.sets n (un.none s slot e),
      record {
        none = λ t x is. elim (seat_after s t (seat r.0.0 (after_turn slot r)) w.slots x is) [
          | inl was ↦ un.none t x was
          | inr now ↦ λ k. un.none s slot e (still_tied slot x w.sets n now k)
        ];
      },
    )

untied : (n : List ℕ) (E : List ℕ) (w : SchedulerState) → IsFree n w → Same n (turns E w).after.sets w.sets
untied n [] w un = refl
untied n (s ∷ E) w un =
    let one = untied_turn n s w un (job_in s w) refl in
    untied n E (turn s w).1 one.1 ∙ one.0

turn_keys : (s : ℕ) (o : Option SlotState) (w : SchedulerState) → keys_of (turn_by s o w).1.sets ≡ keys_of w.sets
turn_keys s None w = refl
turn_keys s (Some slot) w = ran_keys slot w.sets

turns_keys : (E : List ℕ) (w : SchedulerState) → keys_of (turns E w).after.sets ≡ keys_of w.sets
turns_keys [] w = refl
turns_keys (s ∷ E) w = turns_keys E (turn s w).1 ∙ turn_keys s (job_in s w) w

module _ (w : SchedulerState) (apart : Independent w) (differ : NamesDiffer w.sets) (E F : List ℕ)
    (done : (s : ℕ) → job_in s (turns E w).after ≡ None) (done_too : (s : ℕ) → job_in s (turns F w).after ≡ None) where
  same_alone : (s : ℕ) → turns (replicate (turns_given s E) s) w ≡ turns (replicate (turns_given s F) s) w
  same_alone s =
      let a = each_as_alone w apart E s in
      let b = each_as_alone w apart F s in
      either_more s (turns_given s E) (turns_given s F) w (sym a.job ∙ done s) (sym b.job ∙ done_too s)

  same_ends : (s : ℕ) → of_slot s (turns E w).ends ≡ of_slot s (turns F w).ends
  same_ends s = (each_as_alone w apart E s).ends ∙ ap (λ (r : Course). r.ends) (same_alone s) ∙ sym (each_as_alone w apart F s).ends

  same_set : (n : List ℕ) → Same n (turns E w).after.sets (turns F w).after.sets
  same_set n = elim (tied_or_not n w) [
    | inl h ↦ (each_as_alone w apart E h.0).sets h.1 h.2 n h.3
        ∙ ap (λ (r : Course). find_set n r.after.sets) (same_alone h.0)
        ∙ sym ((each_as_alone w apart F h.0).sets h.1 h.2 n h.3)
    | inr un ↦ untied n E w un ∙ sym (untied n F w un)
  ]

  same_sets : (turns E w).after.sets ≡ (turns F w).after.sets
  same_sets =
      let keys = turns_keys E w in
      same_lists (turns E w).after.sets (turns F w).after.sets (keys ∙ sym (turns_keys F w)) (subst (IsDistinct (pointwise nat_eq)) (sym keys) differ) same_set

-- a slot alone ends one job at most
record Once (s : ℕ) (ends : List (ℕ × JobEnd)) : Type 0 where
  pub is : (ends ≡ []) ⊎ ((e : JobEnd) × (ends ≡ (s, e) ∷ []))

once : (s n : ℕ) (v : SchedulerState) → Once s (turns (replicate n s) v).ends
once s zero v = record { is = inl refl }
once s (suc n) v = by (job_in s v) refl (λ u. once s n u)
  where
    by : (o : Option SlotState) → job_in s v ≡ o → ((u : SchedulerState) → Once s (turns (replicate n s) u).ends)
        → Once s (ends_by s (turn_by s o v).0 ++ (turns (replicate n s) (turn_by s o v).1).ends)
    by None e rest = rest v
    by (Some slot) e rest = step_by ((ran slot v.sets).0.0) refl
      where
        step_by : (st : Step) → (ran slot v.sets).0.0 ≡ st → Once s (ends_by s (turn_by s (Some slot) v).0 ++ (turns (replicate n s) (turn_by s (Some slot) v).1).ends)
        step_by step.Goes is =
            subst (λ (k : Step). Once s (ends_by s (told k (after_turn slot (ran slot v.sets))) ++ (turns (replicate n s) (turn_by s (Some slot) v).1).ends)) (sym is)
            (rest (turn_by s (Some slot) v).1)
        step_by (step.Ended ending) is =
            let x = after_turn slot (ran slot v.sets) in
            let empty : job_in s (turn_by s (Some slot) v).1 ≡ None =
            seat_same s (seat (ran slot v.sets).0.0 x) v.slots slot e ∙ ap (λ (k : Step). seat k x) is in
            let none : (turns (replicate n s) (turn_by s (Some slot) v).1).ends ≡ [] = ap (λ (r : Course). r.ends) (no_turns s n (turn_by s (Some slot) v).1 empty) in
            record {
              is = inr (
                job_end x ending,
                ap (λ (k : Step). ends_by s (told k x) ++ (turns (replicate n s) (turn_by s (Some slot) v).1).ends) is
                    ∙ ap (λ (l : List (ℕ × JobEnd)). (s, job_end x ending) ∷ l) none,
              );
            }

all_slots : (P : ℕ × JobEnd → Type 0) (xs : List (ℕ × JobEnd)) → ((s : ℕ) → AllByRecursion P (of_slot s xs)) → AllByRecursion P xs
all_slots P [] h = tt
all_slots P (x ∷ xs) h =
    let here : AllByRecursion P (x ∷ of_slot x.0 xs) =
    subst (λ (b : Bool). AllByRecursion P (if b then x ∷ of_slot x.0 xs else of_slot x.0 xs)) (eq-eqb x.0 x.0 refl) (h x.0) in
    (here.0, all_slots P xs (λ s. by s (x.0 == s) (h s)))
  where
    by : (s : ℕ) (b : Bool) → AllByRecursion P (if b then x ∷ of_slot s xs else of_slot s xs) → AllByRecursion P (of_slot s xs)
    by s true h = h.1
    by s false h = h

all_map : (P : JobEnd → Type 0) (xs : List (ℕ × JobEnd)) → AllByRecursion (λ e. P e.1) xs → AllByRecursion P (map (λ e. e.1) xs)
all_map P [] h = tt
all_map P (x ∷ xs) h = (h.0, all_map P xs h.1)

pub ends_as_alone : (w : SchedulerState) → Independent w → (E : List ℕ) → AllByRecursion (EndsAlone w) (map (λ e. e.1) (turns E w).ends)
ends_as_alone w apart E = all_map (EndsAlone w) (turns E w).ends (all_slots (λ e. EndsAlone w e.1) (turns E w).ends (λ s.
    let n = turns_given s E in
    let alone = (each_as_alone w apart E s).ends in
    elim (once s n w).is [
      | inl e ↦ subst (AllByRecursion (λ x. EndsAlone w x.1)) (sym (alone ∙ e)) tt
      | inr e ↦ subst (AllByRecursion (λ x. EndsAlone w x.1)) (sym (alone ∙ e.1)) ((s, n, e.1), tt)
    ]))

pub rearranged : (w : SchedulerState) → Independent w → (E F : List ℕ) → ((s : ℕ) → turns_given s F ≡ turns_given s E)
    → ((s : ℕ) → job_in s (turns E w).after ≡ None) → (s : ℕ) → job_in s (turns F w).after ≡ None
rearranged w apart E F counts done s =
    (each_as_alone w apart F s).job
    ∙ ap (λ (n : ℕ). job_in s (turns (replicate n s) w).after) (counts s)
    ∙ sym (each_as_alone w apart E s).job ∙ done s

-- turns until a scheduler to stop at are those of some list
some_turns : (stop : SchedulerState → Bool) (w : SchedulerState) (E : List ℕ) (m : Marks) → (F : List ℕ) × (until stop E m w ≡ marked F m w)
some_turns stop w [] m = ([], refl)
some_turns stop w (s ∷ E) m = elim (either_way (stop w)) [
  | inl h ↦ ([], until_stops stop (s ∷ E) m w h)
  | inr h ↦
      let t = turn_as (mark_of m) s w in
      let rest = some_turns stop t.1 E (drop 1 m) in
      (s ∷ rest.0, until_goes stop s E m w h ∙ ap (ends_then (ends_by s t.0)) rest.1)
]

-- where no job ends for want of memory
pub drain_settles : (w : SchedulerState) (m : Marks) → Independent w → NoneByMemory (drain m w).ends → Settles w m
drain_settles w m apart none =
    let some = some_turns is_done w (rounds (turns_left w.slots) (length w.slots)) [] in
    let is = marks_end_jobs is_done w (rounds (turns_left w.slots) (length w.slots)) m none in
    let plain = unmarked w some.0 in
    let ends : (drain m w).ends ≡ (turns some.0 w).ends = is.0 ∙ ap (λ (p : Past). p.ends) some.1 ∙ plain.ends in
    let after : (drain m w).after ≡ (turns some.0 w).after = is.1 ∙ ap (λ (p : Past). p.after) some.1 ∙ plain.after in
    record {
      alone = subst (λ (l : List (ℕ × JobEnd)). AllByRecursion (EndsAlone w) (map (λ e. e.1) l)) (sym ends) (ends_as_alone w apart some.0);
      sets = λ differ E done.
          ap (λ (v : SchedulerState). v.sets) after
          ∙ same_sets w apart differ some.0 E (λ s. ap (λ (v : SchedulerState). job_in s v) (sym after) ∙ drain_empties w m s) done;
    }

-- what a call's turns come to, wherever they stop
not_by_memory : (ends : List (ℕ × JobEnd)) → AllByRecursion (λ e. e.ending ≢ Memory) (map (λ e. e.1) ends) → NoneByMemory ends
not_by_memory [] h = tt
not_by_memory (e ∷ ends) h = (h.0, not_by_memory ends h.1)

in_any_order : (stop : SchedulerState → Bool) (E : List ℕ) (w : SchedulerState) (ends : List JobEnd) (w' : SchedulerState) (a b : Standing) → UntilIs stop E w ends w' a b → InAnyOrder w ends w'
in_any_order stop E w ends w' a b h = record {
  is = λ apart none.
      let m = h.marks ++ [] in
      let p = h.is [] in
      let is = marks_end_jobs stop w E m (not_by_memory (until stop E m w).ends (subst (AllByRecursion (λ e. e.ending ≢ Memory)) (sym p.ended) none)) in
      let some = some_turns stop w E [] in
      let plain = unmarked w some.0 in
      let all : (until stop E m w).ends ≡ (turns some.0 w).ends = is.0 ∙ ap (λ (q : Past). q.ends) some.1 ∙ plain.ends in
      let after : w' ≡ (turns some.0 w).after = sym p.after ∙ is.1 ∙ ap (λ (q : Past). q.after) some.1 ∙ plain.after in
      let told : ends ≡ map (λ e. e.1) (turns some.0 w).ends = sym p.ended ∙ ap (λ (l : List (ℕ × JobEnd)). map (λ e. e.1) l) all in
      record {
        alone = subst (AllByRecursion (EndsAlone w)) (sym told) (ends_as_alone w apart some.0);
        sets = λ differ empty F done.
            ap (λ (v : SchedulerState). v.sets) after ∙ same_sets w apart differ some.0 F (λ s. ap (λ (v : SchedulerState). job_in s v) (sym after) ∙ empty s) done;
      };
}

pub turns_any_order : {Z E : Type 0} (r : Result (Vec JobEnd Z) E) (order : List ℕ) (w w' : SchedulerState) (a b : Standing)
    → IfOk r (λ ends. MarkedIs order w ends.items w' a b) → IfOk r (λ ends. InAnyOrder w ends.items w')
turns_any_order (Ok ends) order w w' a b h = in_any_order never order w ends.items w' a b h
turns_any_order (Err e) order w w' a b h = tt

pub drained_any_order : {Z E : Type 0} (r : Result (Vec JobEnd Z) E) (w w' : SchedulerState) (a b : Standing)
    → IfOk r (λ ends. DrainIs w ends.items w' a b) → IfOk r (λ ends. DrainedInAnyOrder w ends.items w')
drained_any_order (Ok ends) w w' a b h = record {
  empty = λ s. ap (λ (v : SchedulerState). job_in s v) (sym (h.is []).after) ∙ drain_empties w (h.marks ++ []) s;
  order = in_any_order is_done (rounds (turns_left w.slots) (length w.slots)) w ends.items w' a b h;
}
drained_any_order (Err e) w w' a b h = tt

pub any_schedule : AnySchedule
any_schedule w apart differ E F done done_too = record {
  ends = same_ends w apart differ E F done done_too;
  sets = same_sets w apart differ E F done done_too;
}
