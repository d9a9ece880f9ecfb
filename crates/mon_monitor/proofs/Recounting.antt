-- What the history tells of each job, event by event.
use Rattle.std.proofs.Common.{◌≡◌, ◌≢◌, ◌⊎◌, ◌==◌, ℕ, zero, suc, ◌-◌, ◌≤◌, Bool, true, false, List, [], ◌∷◌, ◌++◌, length, map, replicate, Option, Some, None, refl, ap, sym, ◌∙◌, subst, inl, inr, arith, append_assoc, append-nil, if◌then◌else◌, is_some, drop}
use Rattle.mon_monitor.proofs.Common.{filter-append, eqb-true, option_or, Ending, Step, Job, counted_turn, turn_of, statements_begun, statements_of, Program, Account, find_account, UnitState, Reach, serve, run, passed_begins, Sets, account_of, answered, UnitCard, JobDeck, LoadError, NoSlot, NoAccount, SlotState, SchedulerState, scheduler, seat_at, with_seat, job_in, first_free, missing, program_refusal, first_units, tied_by, with_ties, program_in, job_refusal, loaded_slot, slot_in, loaded_by, job_loaded, slot_by, broken_turn, ends_then, reached, ran, ends_by, Mark, Marks, mark_of, passed_at, exchanges_at, may_break, ran_as, turn_as, Past, nothing, until, never, is_done, has_free_slot, room, SystemState, Event, Serve, Load, Give, Drain, happened, played, whole_turn, asked_in, Entered, Asked, Ordered, end_entry, turn_entries, entries_until, load_entry, event_entries, history, is_of, own, IsJob, job_of, NumbersDiffer, serve_fits, turn_counts, IsSeat, seat_changed, free_seat, turn_as_by, broken_by, system, eq-eqb, Memory, Entry, Refused}
use Rattle.sno_run.specs.declared.ending.Step.TheVariants as step
use Rattle.mon_monitor.proofs.{Histories.{event_accounts}, Accounting.{in_rounds}, Exchanging.{whole_told, cut_told, all_passed, all_told, all_asked, cut_asks}}
use Rattle.mon_monitor.proofs.Telling.{same_or_not, not_same, AreOf, none_of, more_of, number_is, number_not, own_more, own_same, Sitting, goes_on, Turn, Again, IsToCome, SoFar, still_job, turn_far}

-- A turn of a job leaves its limits; where the job goes on, fewer statements may begin than before, and where it ends, it has
-- ended so.
pub record Well (job : Job) (r : Step × Job) : Type 0 where
  pub limits : r.1.limits ≡ job.limits
  pub fewer : r.0 ≡ step.Goes → suc (r.1.limits.statements - statements_begun r.1) ≤ job.limits.statements - statements_begun job
  pub over : (ending : Ending) → r.0 ≡ step.Ended ending → r.1.ended ≡ Some ending

abbrev pub TurnsWell : Type 0
TurnsWell = (account : Account) (job : Job) (reach : Reach) → Well job (run (serve account) (turn_of job) reach).0

-- where cards are not refused, they spell a program
abbrev pub Spell : Type 0
Spell = (lines : List (List ℕ)) → program_refusal (statements_of lines) ≡ None → (p : Program) × (program_in (statements_of lines) ≡ Some p)

pub some_free : (o : Option ℕ) → is_some o ≡ true → (s : ℕ) × (o ≡ Some s)
some_free None h = absurd cc
some_free (Some s) h = (s, refl)

-- NUMBERS

pub job_number : (n : ℕ) (events : List Event) (deck : JobDeck) → job_of n events ≡ Some deck → deck.number ≡ n
job_number n [] deck h = absurd cc
job_number n (Serve command ∷ events) deck h = job_number n events deck h
job_number n (Give slot count ∷ events) deck h = job_number n events deck h
job_number n (Drain ∷ events) deck h = job_number n events deck h
job_number n (Load first ∷ events) deck h = by (first.number == n) refl h (job_number n events deck)
  where
    by : (b : Bool) → (first.number == n) ≡ b → (if b then Some first else job_of n events) ≡ Some deck
        → (job_of n events ≡ Some deck → deck.number ≡ n) → deck.number ≡ n
    by true e g rest = (let same : first ≡ deck = cc (g) in ap (λ (d : JobDeck). d.number) (sym same)) ∙ eqb-true first.number n e
    by false e g rest = rest g

job_here : (deck : JobDeck) (events : List Event) → job_of deck.number (Load deck ∷ events) ≡ Some deck
job_here deck events =
    ap (λ (b : Bool). if b then Some deck else job_of deck.number events) (eq-eqb deck.number deck.number refl)

job_later : (n : ℕ) (deck : JobDeck) (events : List Event) → n ≢ deck.number → job_of n (Load deck ∷ events) ≡ job_of n events
job_later n deck events ne =
    ap (λ (b : Bool). if b then Some deck else job_of n events) (not_same deck.number n (λ (e : deck.number ≡ n). ne (sym e)))

-- what is to come, and what was, may be said otherwise
as_far : (accounts : List Account) (J : ℕ → Option JobDeck) (E F : List Event) (H G : List Entry) (slots : List (Option SlotState))
    → ((n : ℕ) → job_of n F ≡ job_of n E) → ((n : ℕ) → own n G ≡ own n H) → SoFar accounts J E H slots → SoFar accounts J F G slots
as_far accounts J E F H G slots to_come same far = record {
  each = λ n. elim (far.each n) [
    | inl h ↦ inl (subst (λ (l : List Entry). IsJob accounts slots (J n) l) (sym (same n)) h)
    | inr h ↦ inr (same n ∙ h.0, h.1 ∙ sym (to_come n))
  ];
  fresh = λ n deck is. let h = far.fresh n deck (sym (to_come n) ∙ is) in (same n ∙ h.0, h.1);
  seats = λ s slot at. subst (λ (l : List Entry). Sitting accounts (J slot.number) l slot) (sym (same slot.number)) (far.seats s slot at);
  one = far.one;
}

module _ (accounts : List Account) (J : ℕ → Option JobDeck) (numbered : (n : ℕ) (deck : JobDeck) → J n ≡ Some deck → deck.number ≡ n) where
  abbrev Far : List Event → List Entry → List (Option SlotState) → Type 0
  Far E H slots = SoFar accounts J E H slots

  -- TURNS
  module _ (again : Again) (well : TurnsWell) (E : List Event) where
    whole_is : (slot : SlotState) (sets : Sets) → (let r = ran slot sets in Turn slot (whole_turn slot sets) r.0.0 r.0.1 r.1.units)
    whole_is slot sets =
        let ok = well slot.account slot.job (reached sets slot) in
        let tells = all_told slot.number slot.account (counted_turn slot.job) (reached sets slot) in
        record {
          told = whole_told slot.number slot.account (turn_of slot.job) (reached sets slot);
          limits = ok.limits;
          fewer = ok.fewer;
          passed = all_passed slot.number slot.account (counted_turn slot.job) (reached sets slot);
          asked = all_asked slot.number slot.account (counted_turn slot.job) (reached sets slot);
          counted = turn_counts slot.job (all_passed slot.number slot.account (counted_turn slot.job) (reached sets slot)) (ran slot sets).0 tells;
          ends = inl (tells, ok.over);
        }

    broken_is : (b : Bool) (m : Mark) (slot : SlotState) (sets : Sets)
        → (let r = broken_by b m slot sets in Turn slot (broken_turn b m slot sets) r.0.0 r.0.1 r.1.units)
    broken_is false m slot sets = whole_is slot sets
    broken_is true m slot sets = record {
      told = cut_told slot.number slot.account (exchanges_at m slot sets) (turn_of slot.job) (reached sets slot);
      limits = refl;
      fewer = λ goes. absurd (let e : step.Ended Memory ≡ step.Goes = goes in cc (e));
      passed = passed_at m slot sets;
      asked = cut_asks slot.number slot.account (suc m.moments) (counted_turn slot.job) (reached sets slot);
      counted = refl;
      ends = inr (refl, passed_begins (serve slot.account) (serve_fits slot.account) (suc m.moments) (counted_turn slot.job) (reached sets slot));
    }

    turn_is : (m : Option Mark) (slot : SlotState) (sets : Sets)
        → (let r = ran_as m slot sets in Turn slot (asked_in m (Some slot) sets) r.0.0 r.0.1 r.1.units)
    turn_is None slot sets = whole_is slot sets
    turn_is (Some m) slot sets = broken_is (may_break slot.job) m slot sets

    step_by : (m : Option Mark) (s : ℕ) (w : SchedulerState) (H : List Entry) (o : Option SlotState) → job_in s w ≡ o → Far E H w.slots
        → Far E (H ++ (map Asked (asked_in m o w.sets) ++ end_entry (turn_as_by m s o w).0)) (turn_as_by m s o w).1.slots
    step_by m s w H None e far = subst (λ (l : List Entry). Far E l w.slots) (sym (append-nil H)) far
    step_by m s w H (Some slot) e far =
        let r = ran_as m slot w.sets in
        turn_far again accounts J numbered E H s slot w.slots far e (far.seats s slot e) (asked_in m (Some slot) w.sets) r.0.0 r.0.1 r.1.units (turn_is m slot w.sets)

    unless_far : (b : Bool) (H xs : List Entry) (p q : Past) → Far E H p.after.slots → Far E (H ++ xs) q.after.slots
        → Far E (H ++ (if b then [] else xs)) (if b then p else q).after.slots
    unless_far true H xs p q h g = subst (λ (l : List Entry). Far E l p.after.slots) (sym (append-nil H)) h
    unless_far false H xs p q h g = g

    pub until_far : (stop : SchedulerState → Bool) (S : List ℕ) (m : Marks) (w : SchedulerState) (H : List Entry) → Far E H w.slots
        → Far E (H ++ entries_until stop S m w) (until stop S m w).after.slots
    until_far stop [] m w H far = subst (λ (l : List Entry). Far E l w.slots) (sym (append-nil H)) far
    until_far stop (s ∷ S) m w H far =
        let t = turn_as (mark_of m) s w in
        let here = turn_entries (mark_of m) s w in
        let rest = entries_until stop S (drop 1 m) t.1 in
        let p = until stop S (drop 1 m) t.1 in
        unless_far (stop w) H (here ++ rest) (nothing m w) (ends_then (ends_by s t.0) p) far
        (subst (λ (l : List Entry). Far E l p.after.slots) (append_assoc H here rest)
        (until_far stop S (drop 1 m) t.1 (H ++ here) (step_by (mark_of m) s w H (job_in s w) refl far)))

  -- A JOB THAT ENTERS
  module _ (spell : Spell) (deck : JobDeck) (E : List Event) (H : List Entry) (slots : List (Option SlotState)) (far : Far (Load deck ∷ E) H slots)
      (once : job_of deck.number E ≡ None) where
    new : (own deck.number H ≡ []) × (J deck.number ≡ Some deck)
    new = far.fresh deck.number deck (job_here deck E)

    -- no other job of its number
    ne_of : (n : ℕ) (d : JobDeck) → job_of n E ≡ Some d → n ≢ deck.number
    ne_of n d is e = let both : None ≡ Some d = sym once ∙ ap (λ (k : ℕ). job_of k E) (sym e) ∙ is in cc (both)

    module _ (entry : Entry) (its : AreOf deck.number (entry ∷ [])) where
      abbrev H_now : List Entry
      H_now = H ++ entry ∷ []

      here : own deck.number H_now ≡ entry ∷ []
      here = own_more deck.number H (entry ∷ []) its ∙ ap (λ (l : List Entry). l ++ entry ∷ []) new.0

      each_by : (now : List (Option SlotState)) → IsJob accounts now (Some deck) (entry ∷ [])
          → ((k : ℕ) (d : JobDeck) (t : ℕ) (slot : SlotState) → k ≢ deck.number → J k ≡ Some d → slot.number ≡ d.number → seat_at t slots ≡ Some slot → seat_at t now ≡ Some slot)
          → (k : ℕ) → IsJob accounts now (J k) (own k H_now) ⊎ IsToCome J E k (own k H_now)
      each_by now job stays k = elim (same_or_not k deck.number) [
        | inl is ↦
            inl (subst (λ (n : ℕ). IsJob accounts now (J n) (own n H_now)) (sym is)
            (subst (λ (l : List Entry). IsJob accounts now (J deck.number) l) (sym here)
            (subst (λ (o : Option JobDeck). IsJob accounts now o (entry ∷ [])) (sym new.1) job)))
        | inr ne ↦
            let same = own_same deck.number k H (entry ∷ []) its ne in
            elim (far.each k) [
              | inl h ↦
                  inl (subst (λ (l : List Entry). IsJob accounts now (J k) l) (sym same)
                  (still_job accounts slots now (own k H) (J k) (λ t slot d is number at. stays k d t slot ne is number at) h))
              | inr h ↦ inr (same ∙ h.0, h.1 ∙ job_later k deck E ne)
            ]
      ]

      fresh_now : (n : ℕ) (d : JobDeck) → job_of n E ≡ Some d → (own n H_now ≡ []) × (J n ≡ Some d)
      fresh_now n d is =
          let ne = ne_of n d is in
          let before = far.fresh n d (job_later n deck E ne ∙ is) in
          (own_same deck.number n H (entry ∷ []) its ne ∙ before.0, before.1)

      -- none that sits in a slot has its number
      not_seated : (s : ℕ) (slot : SlotState) → seat_at s slots ≡ Some slot → slot.number ≢ deck.number
      not_seated s slot at e =
          let sit = far.seats s slot at in
          let full : Entered sit.deck ∷ map Asked sit.course.asked ≡ [] = sym sit.all ∙ ap (λ (n : ℕ). own n H) e ∙ new.0 in
          cc (full)

      still_sits : (s : ℕ) (slot : SlotState) → seat_at s slots ≡ Some slot → Sitting accounts (J slot.number) (own slot.number H_now) slot
      still_sits s slot at =
          subst (λ (l : List Entry). Sitting accounts (J slot.number) l slot) (sym (own_same deck.number slot.number H (entry ∷ []) its (not_seated s slot at)))
          (far.seats s slot at)

    entry_of : (entry : Entry) → is_of deck.number entry ≡ true → ((k : ℕ) → k ≢ deck.number → is_of k entry ≡ false) → AreOf deck.number (entry ∷ [])
    entry_of entry is not = more_of deck.number entry [] is not (none_of deck.number)

    -- it is refused
    refused_far : (refusal : LoadError) → job_refusal accounts deck ≡ Some refusal → Far E (H ++ Refused deck refusal ∷ []) slots
    refused_far refusal why =
        let entry = Refused deck refusal in
        let its = entry_of entry (number_is deck.number deck.number refl) (number_not deck.number deck.number refl) in
        record {
          each = each_by entry its slots (inl (record { refusal = refusal; why = why; all = refl })) (λ k d t slot ne is number at. at);
          fresh = fresh_now entry its;
          seats = still_sits entry its;
          one = far.one;
        }

    -- or loaded, into an empty seat
    module _ (s : ℕ) (free : IsSeat s slots × (seat_at s slots ≡ None)) (good : job_refusal accounts deck ≡ None) (account : Account) (known : find_account accounts deck.account ≡ Some account)
        (p : Program) (spelled : program_in (statements_of deck.lines) ≡ Some p) (empty : (with_ties deck.ties (first_units deck.lines)).spool ≡ []) (blank : (with_ties deck.ties (first_units deck.lines)).notes ≡ []) where
      abbrev state : SlotState
      state = loaded_slot account deck p

      abbrev seats_now : List (Option SlotState)
      seats_now = with_seat s (Some state) slots

      its_own : AreOf deck.number (Entered deck ∷ [])
      its_own = entry_of (Entered deck) (number_is deck.number deck.number refl) (number_not deck.number deck.number refl)

      sitting : Sitting accounts (Some deck) (Entered deck ∷ []) state
      sitting = record {
        deck = deck;
        is = refl;
        course = record { good = good; account = account; known = known; program = p; spelled = spelled; asked = []; units = with_ties deck.ties (first_units deck.lines); follow = refl };
        number = refl;
        account = refl;
        units = refl;
        limits = refl;
        all = refl;
        turns = 0;
        within = omega arith;
        passed = [];
        asked = refl;
        counted = refl;
        tells = refl;
        spool = empty;
        notes = blank;
      }

      not_there : (t : ℕ) (slot : SlotState) → seat_at t slots ≡ Some slot → t ≢ s
      not_there t slot at e = let both : None ≡ Some slot = sym free.1 ∙ ap (λ (k : ℕ). seat_at k slots) (sym e) ∙ at in cc (both)

      stays : (t : ℕ) (slot : SlotState) → seat_at t slots ≡ Some slot → seat_at t seats_now ≡ Some slot
      stays t slot at = elim (seat_changed s t (Some state) slots free.0) [
        | inl is ↦ absurd (not_there t slot at is.0)
        | inr not ↦ not.1 ∙ at
      ]

      was : (t : ℕ) (slot : SlotState) → seat_at t seats_now ≡ Some slot → ((t ≡ s) × (state ≡ slot)) ⊎ (seat_at t slots ≡ Some slot)
      was t slot at = elim (seat_changed s t (Some state) slots free.0) [
        | inl is ↦ inl (is.0, (let same : Some state ≡ Some slot = sym is.1 ∙ at in cc (same)))
        | inr not ↦ inr (sym not.1 ∙ at)
      ]

      sits_there : seat_at s seats_now ≡ Some state
      sits_there = elim (seat_changed s s (Some state) slots free.0) [
        | inl is ↦ is.1
        | inr not ↦ absurd (not.0 refl)
      ]

      mine : Sitting accounts (J deck.number) (own deck.number (H ++ Entered deck ∷ [])) state
      mine =
          subst (λ (l : List Entry). Sitting accounts (J deck.number) l state) (sym (here (Entered deck) its_own))
          (subst (λ (o : Option JobDeck). Sitting accounts o (Entered deck ∷ []) state) (sym new.1) sitting)

      pub loaded_far : Far E (H ++ Entered deck ∷ []) seats_now
      loaded_far = record {
        each = each_by (Entered deck) its_own seats_now (inr (inl (goes_on accounts deck (Entered deck ∷ []) s state seats_now sitting sits_there))) (λ k d t slot ne is number at. stays t slot at);
        fresh = fresh_now (Entered deck) its_own;
        seats = λ t slot at. elim (was t slot at) [
          | inl now ↦ subst (λ (x : SlotState). Sitting accounts (J x.number) (own x.number (H ++ Entered deck ∷ [])) x) now.1 mine
          | inr before ↦ still_sits (Entered deck) its_own t slot before
        ];
        one = λ t u a b h g same. elim (was t a h) [
          | inl now ↦ elim (was u b g) [
            | inl now' ↦ now.0 ∙ sym now'.0
            | inr before' ↦ absurd (not_seated (Entered deck) its_own u b before' (sym same ∙ sym (ap (λ (x : SlotState). x.number) now.1)))
          ]
          | inr before ↦ elim (was u b g) [
            | inl now' ↦ absurd (not_seated (Entered deck) its_own t a before (same ∙ sym (ap (λ (x : SlotState). x.number) now'.1)))
            | inr before' ↦ far.one t u a b before before' same
          ]
        ];
      }

  -- EVENTS

  -- a job that enters has nothing spooled and nothing noted
  ties_spool : (cards : List UnitCard) (units : UnitState) → (with_ties cards units).spool ≡ units.spool
  ties_spool [] units = refl
  ties_spool (card ∷ cards) units = ties_spool cards (tied_by card units)

  ties_notes : (cards : List UnitCard) (units : UnitState) → (with_ties cards units).notes ≡ units.notes
  ties_notes [] units = refl
  ties_notes (card ∷ cards) units = ties_notes cards (tied_by card units)

  -- what is not refused has an account and a program
  known_by : (o : Option Account) (rest : Option LoadError) → option_or (missing NoAccount o) rest ≡ None → (account : Account) × (o ≡ Some account) × (rest ≡ None)
  known_by None rest h = absurd cc
  known_by (Some account) rest h = (account, refl, h)

  tied_by_cards : (o rest : Option LoadError) → option_or o rest ≡ None → rest ≡ None
  tied_by_cards None rest h = h
  tied_by_cards (Some refusal) rest h = absurd cc

  module _ (again : Again) (well : TurnsWell) (spell : Spell) where
    enters : (deck : JobDeck) (E : List Event) (H : List Entry) (slots : List (Option SlotState)) → Far (Load deck ∷ E) H slots → job_of deck.number E ≡ None
        → (s : ℕ) → first_free slots ≡ Some s → Far E (H ++ load_entry deck (job_loaded accounts deck slots).0) (job_loaded accounts deck slots).1
    enters deck E H slots far once s free =
        subst (λ (o : Option ℕ). (let l = loaded_by (option_or (missing NoSlot o) (job_refusal accounts deck)) o (slot_in accounts deck) slots in Far E (H ++ load_entry deck l.0) l.1)) (sym free)
        (by (job_refusal accounts deck) refl)
      where
        by : (refusal : Option LoadError) → job_refusal accounts deck ≡ refusal
            → (let l = loaded_by refusal (Some s) (slot_in accounts deck) slots in Far E (H ++ load_entry deck l.0) l.1)
        by (Some refusal) is = refused_far spell deck E H slots far once refusal is
        by None is =
            let known = known_by (find_account accounts deck.account) _ is in
            let clean = tied_by_cards _ _ known.2 in
            let program = spell deck.lines clean in
            let slot_is : slot_in accounts deck ≡ Some (loaded_slot known.0 deck program.0) =
            ap (λ (o : Option Account). slot_by deck o (program_in (statements_of deck.lines))) known.1
            ∙ ap (λ (o : Option Program). slot_by deck (Some known.0) o) program.1 in
            subst (λ (o : Option SlotState). (let l = loaded_by None (Some s) o slots in Far E (H ++ load_entry deck l.0) l.1)) (sym slot_is)
            (loaded_far spell deck E H slots far once s (free_seat slots s free) is known.0 known.1 program.0 program.1
            (ties_spool deck.ties (first_units deck.lines)) (ties_notes deck.ties (first_units deck.lines)))

    ordered_by_none : (n : ℕ) (H : List Entry) (entry : Entry) → is_of n entry ≡ false → own n (H ++ entry ∷ []) ≡ own n H
    ordered_by_none n H entry not =
        filter-append (is_of n) H (entry ∷ []) ∙ ap (λ (b : Bool). own n H ++ (if b then entry ∷ [] else [])) not ∙ append-nil (own n H)

    module _ (made : (w : SchedulerState) (m : Marks) → length w.slots ≢ 0 → has_free_slot (room m w).after ≡ true)
        (stays : (e : Event) (m : Marks) (w : SystemState) → length (happened e m w).after.scheduler.slots ≡ length w.scheduler.slots) where
      abbrev Happens : Event → Marks → SchedulerState → List Entry → List Event → Type 0
      Happens e m f H E = Far E (H ++ event_entries e m (system accounts f)) (happened e m (system accounts f)).after.scheduler.slots

      event_far : (e : Event) (E : List Event) (m : Marks) (f : SchedulerState) (H : List Entry) → NumbersDiffer (e ∷ E) → length f.slots ≢ 0 → Far (e ∷ E) H f.slots → Happens e m f H E
      event_far (Serve command) E m f H differ some far =
          let entry = Ordered (find_account accounts (account_of command)) f.sets command (answered accounts f.sets command).answer in
          as_far accounts J (Serve command ∷ E) E H (H ++ entry ∷ []) f.slots (λ n. refl) (λ n. ordered_by_none n H entry refl) far
      event_far (Load deck) E m f H differ some far =
          let g = (room m f).after in
          let entries = entries_until has_free_slot (in_rounds f) m f in
          let free = some_free (first_free g.slots) (made f m some) in
          let turns = until_far again well (Load deck ∷ E) has_free_slot (in_rounds f) m f H far in
          subst (λ (l : List Entry). Far E l (job_loaded accounts deck g.slots).1) (append_assoc H entries (load_entry deck (job_loaded accounts deck g.slots).0))
          (enters deck E (H ++ entries) g.slots turns differ.0 free.0 free.1)
      event_far (Give slot count) E m f H differ some far =
          until_far again well E never (replicate count slot) m f H (as_far accounts J (Give slot count ∷ E) E H H f.slots (λ n. refl) (λ n. refl) far)
      event_far Drain E m f H differ some far =
          until_far again well E is_done (in_rounds f) m f H (as_far accounts J (Drain ∷ E) E H H f.slots (λ n. refl) (λ n. refl) far)

      differ_later : (e : Event) (E : List Event) → NumbersDiffer (e ∷ E) → NumbersDiffer E
      differ_later (Serve command) E differ = differ
      differ_later (Load deck) E differ = differ.1
      differ_later (Give slot count) E differ = differ
      differ_later Drain E differ = differ

      pub history_far : (E : List Event) (m : Marks) (f : SchedulerState) (H : List Entry) → NumbersDiffer E → length f.slots ≢ 0 → Far E H f.slots
          → Far [] (H ++ history E m (system accounts f)) (played E m (system accounts f)).after.scheduler.slots
      history_far [] m f H differ some far = subst (λ (l : List Entry). Far [] l f.slots) (sym (append-nil H)) far
      history_far (e ∷ E) m f H differ some far =
          let p = happened e m (system accounts f) in
          let here = event_entries e m (system accounts f) in
          let now = system accounts p.after.scheduler in
          let same : p.after ≡ now = ap (λ (a : List Account). system a p.after.scheduler) (event_accounts e m (system accounts f)) in
          let next = event_far e E m f H differ some far in
          let enough : length p.after.scheduler.slots ≢ 0 = (λ z. some (sym (stays e m (system accounts f)) ∙ z)) in
          let rest = history_far E p.marks p.after.scheduler (H ++ here) (differ_later e E differ) enough next in
          let moved = subst (λ (w : SystemState). Far [] ((H ++ here) ++ history E p.marks w) (played E p.marks w).after.scheduler.slots) (sym same) rest in
          subst (λ (l : List Entry). Far [] l (played E p.marks p.after).after.scheduler.slots) (append_assoc H here (history E p.marks p.after)) moved

-- at the beginning
pub none_first : (n s : ℕ) (slot : SlotState) → seat_at s (replicate n None) ≡ Some slot → ⊥
none_first n zero slot h = cc (h)
none_first zero (suc i) slot h = cc (h)
none_first (suc n) (suc zero) slot h = cc (h)
none_first (suc n) (suc (suc i)) slot h = none_first n (suc i) slot h

abbrev pub no_jobs : ℕ → List (Option SlotState)
no_jobs n = replicate n None

pub so_many : (n : ℕ) → length (no_jobs n) ≡ n
so_many zero = refl
so_many (suc n) = ap suc (so_many n)

pub all_jobs : Again → TurnsWell → Spell → ((w : SchedulerState) (m : Marks) → length w.slots ≢ 0 → has_free_slot (room m w).after ≡ true)
    → ((e : Event) (m : Marks) (w : SystemState) → length (happened e m w).after.scheduler.slots ≡ length w.scheduler.slots)
    → (slots : ℕ) (accounts : List Account) (sets : Sets) (E : List Event) (m : Marks) → slots ≢ 0 → NumbersDiffer E
    → (let w = system accounts (scheduler sets (replicate slots None)) in
    (n : ℕ) → IsJob accounts (played E m w).after.scheduler.slots (job_of n E) (own n (history E m w)))
all_jobs again well spell made lengths slots accounts sets E m some differ n =
    elim (far.each n) [
      | inl h ↦ h
      | inr h ↦ subst (λ (o : Option JobDeck). IsJob accounts (played E m w).after.scheduler.slots o (own n (history E m w))) (sym h.1) h.0
    ]
  where
    w : SystemState
    w = system accounts (scheduler sets (replicate slots None))

    far : SoFar accounts (λ k. job_of k E) [] (history E m w) (played E m w).after.scheduler.slots
    far =
        history_far accounts (λ k. job_of k E) (λ k deck is. job_number k E deck is) again well spell made lengths E m (scheduler sets (replicate slots None)) [] differ
        (λ z. some (sym (so_many slots) ∙ z))
        (record {
          each = λ k. inr (refl, refl);
          fresh = λ k deck is. (refl, is);
          seats = λ s slot at. absurd (none_first slots s slot at);
          one = λ s t a b at there same. absurd (none_first slots s a at);
        })
