-- What each card brings, turn by turn.
use Rattle.std.proofs.Common.{◌≡◌, ◌≢◌, ℕ, zero, suc, ◌+◌, ◌*◌, ◌%◌, ◌<◌, ◌≤◌, Bool, true, false, List, [], ◌∷◌, ◌++◌, length, map, take, replicate, Option, Some, None, Result, refl, ap, sym, ◌∙◌, subst, inl, inr, arith, if◌then◌else◌, is_some, is_none, IsSome, drop, slice_get}
use Rattle.mon_monitor.proofs.Common.{AllByRecursion, flat_map, list_all, list_any, range_with_len, position_from, option_flatten, option_or, lt-ltb, le-ltb, mod-mul-add, suc-mul, Returns, Asks, Asking, Beginning, Requesting, Counted, requests_in, statements_in, Done, Ending, Step, Job, counted_turn, turn_of, statements_begun, statements_of, Program, Account, find_account, Sets, account_of, answered, Reach, serve, run, passed, passing, serve_fits, JobDeck, LoadError, NoSlot, SlotState, SchedulerState, seat_at, with_seat, job_in, first_free, missing, program_in, job_refusal, loaded_slot, slot_in, loaded_by, job_loaded, slot_by, broken_turn, ends_then, reached, ran, after_turn, seat, told, ends_by, Mark, Marks, mark_of, exchanges_at, may_break, ran_as, turn_as, Past, nothing, until, never, rounds, turns_left, is_done, has_free_slot, room, RoomIsMade, turn_length, until_goes, enough, turn_as_by, broken_by, SystemState, first_system, system, Event, Serve, Load, Give, Drain, happened, played, SlotsStay, Exchanged, asked_by, whole_turn, asked_in, Entered, Asked, end_entry, turn_entries, entries_until, load_entry, event_entries, history, exchanges, Seats, Stage, left_as, IsTurn, TurnOf, Take, Turns, IsLowestFree, Loads, Brings, BringInOrder, IsUnbroken, TurnsCome, Passed, Memory, Entry, Refused, in_rounds}
use Rattle.interaction.specs.Asking as asking
use Rattle.sno_run.specs.declared.ending.Step.TheVariants as step
use Rattle.mon_monitor.{proofs.Unbroken.{turn_unbroken}, specs.Turns.{given}, proofs.Histories.{event_accounts}, proofs.Turning.{seat_after}}
use Rattle.mon_monitor.proofs.{Exchanging.{whole_told, cut_told, all_passed, all_told, cut_asks}, Recounting.{some_free, none_first, no_jobs, so_many}}

abbrev pub staged : Seats → Marks → Stage
staged seats marks = record { seats = seats; marks = marks }

-- who sits in a slot has not ended
abbrev pub Going : Seats → Type 0
Going seats = (s : ℕ) (slot : SlotState) → seat_at s seats ≡ Some slot → slot.job.ended ≡ None

-- A TURN

asked_tells : {A : Type 0} (n : ℕ) (account : Account) (t : Asking A) (reach : Reach)
    → asking.IsTrace t (exchanges (asked_by n account t reach)) (run (serve account) t reach).0
asked_tells n account (Returns a) reach = refl
asked_tells n account (Asks q f) reach = (refl, serve_fits account reach q, asked_tells n account (f (serve account reach q).0) (serve account reach q).1)

passed_taken : {A : Type 0} (n : ℕ) (account : Account) (k : ℕ) (t : Counted A) (reach : Reach)
    → passed (serve account) k t reach ≡ take k (all_passed n account t reach)
passed_taken n account zero (Returns a) reach = refl
passed_taken n account zero (Asks Beginning f) reach = refl
passed_taken n account zero (Asks (Requesting q) f) reach = refl
passed_taken n account (suc k) (Returns a) reach = refl
passed_taken n account (suc k) (Asks Beginning f) reach = ap (λ (x : List Passed). passing Beginning Done ∷ x) (passed_taken n account k (f Done) reach)
passed_taken n account (suc k) (Asks (Requesting q) f) reach =
    ap (λ (x : List Passed). passing (Requesting q) (serve account reach q).0 ∷ x)
    (passed_taken n account k (f (serve account reach q).0) (serve account reach q).1)

module _ (s : ℕ) (slot : SlotState) (before : Seats) (sets : Sets) (going : slot.job.ended ≡ None) where
  abbrev IsTurnBy : Option Mark → List Exchanged → (Step × Job) × Reach → Type 0
  IsTurnBy mark x r =
      IsTurn mark s slot before (map Asked x ++ end_entry (told r.0.0 (after_turn slot r))) (with_seat s (seat r.0.0 (after_turn slot r)) before)

  whole_turned : (mark : Option Mark) → IsTurnBy mark (whole_turn slot sets) (ran slot sets)
  whole_turned mark =
      let reach = reached sets slot in
      let r = ran slot sets in
      record {
        asked = whole_turn slot sets;
        units = r.1.units;
        follow = (whole_told slot.number slot.account (turn_of slot.job) reach).follow;
        end = r.0.0;
        job = r.0.1;
        asks = inl (asked_tells slot.number slot.account (turn_of slot.job) reach, (turn_unbroken slot.job going (serve slot.account) reach).0);
        adds = refl;
        leaves = refl;
      }

  broken_turned : (b : Bool) (m : Mark) → IsTurnBy (Some m) (broken_turn b m slot sets) (broken_by b m slot sets)
  broken_turned false m = whole_turned (Some m)
  broken_turned true m =
      let reach = reached sets slot in
      let same = passed_taken slot.number slot.account (suc m.moments) (counted_turn slot.job) reach in
      record {
        asked = broken_turn true m slot sets;
        units = (broken_by true m slot sets).1.units;
        follow = (cut_told slot.number slot.account (exchanges_at m slot sets) (turn_of slot.job) reach).follow;
        end = step.Ended Memory;
        job = (broken_by true m slot sets).0.1;
        asks = inr (record {
          at = m;
          stands = refl;
          memory = refl;
          all = all_passed slot.number slot.account (counted_turn slot.job) reach;
          statement = ((ran slot sets).0, all_told slot.number slot.account (counted_turn slot.job) reach);
          asked = cut_asks slot.number slot.account (suc m.moments) (counted_turn slot.job) reach ∙ ap requests_in same;
          counted = ap (λ (l : List Passed). statements_begun slot.job + statements_in l) same;
        });
        adds = refl;
        leaves = refl;
      }

  job_turned : (mark : Option Mark) → IsTurnBy mark (asked_in mark (Some slot) sets) (ran_as mark slot sets)
  job_turned None = whole_turned None
  job_turned (Some m) = broken_turned (may_break slot.job) m

  broken_goes : (b : Bool) (m : Mark) → (broken_by b m slot sets).0.0 ≡ step.Goes → (broken_by b m slot sets).0.1.ended ≡ None
  broken_goes false m goes = (turn_unbroken slot.job going (serve slot.account) (reached sets slot)).1 goes
  broken_goes true m goes = absurd (let e : step.Ended Memory ≡ step.Goes = goes in cc (e))

  goes : (mark : Option Mark) → (ran_as mark slot sets).0.0 ≡ step.Goes → (ran_as mark slot sets).0.1.ended ≡ None
  goes None is = (turn_unbroken slot.job going (serve slot.account) (reached sets slot)).1 is
  goes (Some m) is = broken_goes (may_break slot.job) m is

turn_of_slot : (mark : Option Mark) (s : ℕ) (w : SchedulerState) (o : Option SlotState) → job_in s w ≡ o → Going w.slots
    → TurnOf mark s o w.slots (map Asked (asked_in mark o w.sets) ++ end_entry (turn_as_by mark s o w).0) (turn_as_by mark s o w).1.slots
turn_of_slot mark s w None e going = (refl, refl)
turn_of_slot mark s w (Some slot) e going = job_turned s slot w.slots w.sets (going s slot e) mark

going_after : (mark : Option Mark) (s : ℕ) (w : SchedulerState) (o : Option SlotState) → job_in s w ≡ o → Going w.slots → Going (turn_as_by mark s o w).1.slots
going_after mark s w None e going = going
going_after mark s w (Some slot) e going = λ t other at.
    let r = ran_as mark slot w.sets in
    elim (seat_after s t (seat r.0.0 (after_turn slot r)) w.slots other at) [
      | inl was ↦ going t other was
      | inr now ↦ by other r.0.0 refl now
    ]
  where
    by : (other : SlotState) (q : Step) → (ran_as mark slot w.sets).0.0 ≡ q → seat q (after_turn slot (ran_as mark slot w.sets)) ≡ Some other
        → other.job.ended ≡ None
    by other step.Goes is now =
        let same : after_turn slot (ran_as mark slot w.sets) ≡ other = cc (now) in
        ap (λ (x : SlotState). x.job.ended) (sym same) ∙ goes s slot w.slots w.sets (going s slot e) mark is
    by other (step.Ended ending) is now = absurd cc

-- TURNS

abbrev past_stage : Past → Stage
past_stage p = staged p.after.slots p.marks

module _ (stop : SchedulerState → Bool) where
  -- what each turn adds
  abbrev each_turn : List ℕ → Marks → SchedulerState → List (List Entry)
  each_turn [] m w = []
  each_turn (s ∷ E) m w = if stop w then [] else turn_entries (mark_of m) s w ∷ each_turn E (drop 1 m) (turn_as (mark_of m) s w).1

  joined_by : (b : Bool) (here rest : List Entry) (more : List (List Entry)) → rest ≡ flat_map (λ added. added) more
      → (if b then [] else here ++ rest) ≡ flat_map (λ added. added) (if b then [] else here ∷ more)
  joined_by true here rest more h = refl
  joined_by false here rest more h = ap (λ (l : List Entry). here ++ l) h

  joined : (E : List ℕ) (m : Marks) (w : SchedulerState) → entries_until stop E m w ≡ flat_map (λ added. added) (each_turn E m w)
  joined [] m w = refl
  joined (s ∷ E) m w = joined_by (stop w) _ _ _ (joined E (drop 1 m) (turn_as (mark_of m) s w).1)

  going_unless : (b : Bool) (p q : Past) → Going p.after.slots → Going q.after.slots → Going (if b then p else q).after.slots
  going_unless true p q h g = h
  going_unless false p q h g = g

  going_until : (E : List ℕ) (m : Marks) (w : SchedulerState) → Going w.slots → Going (until stop E m w).after.slots
  going_until [] m w going = going
  going_until (s ∷ E) m w going =
      let t = turn_as (mark_of m) s w in
      going_unless (stop w) (nothing m w) (ends_then (ends_by s t.0) (until stop E (drop 1 m) t.1)) going
      (going_until E (drop 1 m) t.1 (going_after (mark_of m) s w (job_in s w) refl going))

-- these slots come one after the other, round and round, from the turn of this number on
abbrev Places : ℕ → ℕ → List ℕ → Type 0
Places size i [] = Unit {0}
Places size i (s ∷ E) = (s ≡ suc (i % size)) × Places size (suc i) E

places_both : (size i : ℕ) (xs ys : List ℕ) → Places size i xs → Places size (i + length xs) ys → Places size i (xs ++ ys)
places_both size i [] ys h g = let e : i + 0 ≡ i = omega arith in subst (λ (k : ℕ). Places size k ys) e g
places_both size i (x ∷ xs) ys h g =
    let e : i + suc (length xs) ≡ suc i + length xs = omega arith in
    (h.0, places_both size (suc i) xs ys h.1 (subst (λ (k : ℕ). Places size k ys) e g))

one_round : (size base r n : ℕ) → ((k : ℕ) → k < size → (base + k) % size ≡ k) → r + n ≤ size → Places size (base + r) (range_with_len (suc r) n)
one_round size base r zero whole le = tt
one_round size base r (suc n) whole le =
    let less : r < size = omega (arith, le) in
    let fits : suc r + n ≤ size = omega (arith, le) in
    let one : suc (suc r) ≡ suc r + 1 = omega arith in
    let next : base + suc r ≡ suc (base + r) = omega arith in (
      ap suc (sym (whole r less)),
      subst (λ (k : ℕ). Places size (suc (base + r)) (range_with_len k n)) one
          (subst (λ (k : ℕ). Places size k (range_with_len (suc (suc r)) n)) next (one_round size base (suc r) n whole fits)),
    )

range_length : (i n : ℕ) → length (range_with_len i n) ≡ n
range_length i zero = refl
range_length i (suc n) = ap suc (range_length (i + 1) n)

placed : (size q k : ℕ) → Places size (q * size) (rounds k size)
placed size q zero = tt
placed size q (suc k) =
    let base = q * size in
    let here : base + 0 ≡ base = omega arith in
    let many = range_length 1 size in
    let more = suc-mul q size in
    let next : suc q * size ≡ q * size + length (range_with_len 1 size) = more ∙ ap (λ (n : ℕ). q * size + n) (sym many) in
    places_both size base (range_with_len 1 size) (rounds k size)
    (subst (λ (i : ℕ). Places size i (range_with_len 1 size)) here (one_round size base 0 size (λ r less. mod-mul-add q size r less) (omega arith)))
    (subst (λ (i : ℕ). Places size i (rounds k size)) next (placed size (suc q) k))

placed_first : (size k : ℕ) → Places size 0 (rounds k size)
placed_first size k = let none : 0 * size ≡ 0 = omega arith in subst (λ (i : ℕ). Places size i (rounds k size)) none (placed size 0 k)

module _ (enough_of : Seats → Bool) (stop : SchedulerState → Bool) (agree : (v : SchedulerState) → stop v ≡ enough_of v.slots) (size : ℕ) where
  due_none : (i : ℕ) (w : SchedulerState) → stop w ≡ true → in_rounds enough_of i w.slots ≡ None
  due_none i w h = ap (λ (b : Bool). if b then None else Some (suc (i % length w.slots))) (sym (agree w) ∙ h)

  due_some : (i s : ℕ) (w : SchedulerState) → length w.slots ≡ size → stop w ≡ false → s ≡ suc (i % size) → in_rounds enough_of i w.slots ≡ Some s
  due_some i s w is h place =
      ap (λ (b : Bool). if b then None else Some (suc (i % length w.slots))) (sym (agree w) ∙ h)
      ∙ ap (λ (n : ℕ). Some (suc (i % n))) is ∙ ap (λ (n : ℕ). Some n) (sym place)

  rounds_take : (E : List ℕ) (i : ℕ) (m : Marks) (w : SchedulerState) → length w.slots ≡ size → Going w.slots → Places size i E → stop (until stop E m w).after ≡ true
      → Take (in_rounds enough_of) i (staged w.slots m) (each_turn stop E m w) (past_stage (until stop E m w))
  rounds_take [] i m w is going places last = (due_none i w last, refl)
  rounds_take (s ∷ E) i m w is going places last =
      by (stop w) refl
      (λ e. rounds_take E (suc i) (drop 1 m) (turn_as (mark_of m) s w).1 (turn_length (mark_of m) s w ∙ is) (going_after (mark_of m) s w (job_in s w) refl going) places.1
      (ap (λ (p : Past). stop p.after) (sym (until_goes stop s E m w e)) ∙ last))
    where
      by : (b : Bool) → stop w ≡ b
          → (stop w ≡ false → (let t = turn_as (mark_of m) s w in Take (in_rounds enough_of) (suc i) (staged t.1.slots (drop 1 m)) (each_turn stop E (drop 1 m) t.1) (past_stage (until stop E (drop 1 m) t.1))))
          → (let t = turn_as (mark_of m) s w in
          Take (in_rounds enough_of) i (staged w.slots m) (if b then [] else turn_entries (mark_of m) s w ∷ each_turn stop E (drop 1 m) t.1)
          (past_stage (if b then nothing m w else ends_then (ends_by s t.0) (until stop E (drop 1 m) t.1))))
      by true e rest = (due_none i w e, refl)
      by false e rest = (s, (turn_as (mark_of m) s w).1.slots, due_some i s w is e places.0, turn_of_slot (mark_of m) s w (job_in s w) refl going, rest e)

give_take : (s count j i : ℕ) (m : Marks) (w : SchedulerState) → i + j ≡ count → Going w.slots
    → Take (given s count) i (staged w.slots m) (each_turn never (replicate j s) m w) (past_stage (until never (replicate j s) m w))
give_take s count zero i m w is going = (ap (λ (b : Bool). if b then Some s else None) (le-ltb i count (omega (arith, is))), refl)
give_take s count (suc j) i m w is going =
    let t = turn_as (mark_of m) s w in
    let later : suc i + j ≡ count = omega (arith, is) in (
      s,
      t.1.slots,
      ap (λ (b : Bool). if b then Some s else None) (lt-ltb i count (omega (arith, is))),
      turn_of_slot (mark_of m) s w (job_in s w) refl going,
      give_take s count j (suc i) (drop 1 m) t.1 later (going_after (mark_of m) s w (job_in s w) refl going),
    )

-- A JOB THAT ENTERS

free_some : (n : ℕ) (slots : Seats) → is_some (position_from is_none n slots) ≡ list_any is_none slots
free_some n [] = refl
free_some n (None ∷ slots) = refl
free_some n (Some x ∷ slots) = free_some (n + 1) slots

-- the first empty seat, and the seats before it
pub record IsFirst (n s : ℕ) (slots : Seats) : Type 0 where
  pub i : ℕ
  pub is : s ≡ n + i
  pub within : i < length slots
  pub empty : option_flatten (slice_get slots i) ≡ None
  pub taken : (t : ℕ) → t < i → IsSome (option_flatten (slice_get slots t))

behind : (n s : ℕ) (x : SlotState) (slots : Seats) → IsFirst (n + 1) s slots → IsFirst n s (Some x ∷ slots)
behind n s x slots rest = record {
  i = suc rest.i;
  is = (let e = rest.is in omega (arith, e));
  within = (let e = rest.within in omega (arith, e));
  empty = rest.empty;
  taken = by;
}
  where
    by : (t : ℕ) → t < suc rest.i → IsSome (option_flatten (slice_get (Some x ∷ slots) t))
    by zero less = refl
    by (suc t) less = rest.taken t (omega (arith, less))

first : (n : ℕ) (slots : Seats) (s : ℕ) → position_from is_none n slots ≡ Some s → IsFirst n s slots
first n [] s h = absurd cc
first n (None ∷ slots) s h = record {
  i = 0;
  is = (let e : n ≡ s = cc (h) in omega (arith, e));
  within = omega arith;
  empty = refl;
  taken = λ t less. absurd (omega (arith, less));
}
first n (Some x ∷ slots) s h = behind n s x slots (first (n + 1) slots s h)

lowest_free : (slots : Seats) (s : ℕ) → first_free slots ≡ Some s → IsLowestFree s slots
lowest_free slots s h =
    let at = first 1 slots s h in
    let is : suc at.i ≡ s = (let e = at.is in omega (arith, e)) in
    subst (λ (k : ℕ). IsLowestFree k slots) is
    (record {
      free = (omega arith, (let e = at.within in omega (arith, e)), at.empty);
      lowest = λ t some less. below slots at.i at.taken t some less;
    })
  where
    below : (seats : Seats) (i : ℕ) → ((t : ℕ) → t < i → IsSome (option_flatten (slice_get seats t))) → (t : ℕ) → 0 < t → t < suc i → IsSome (seat_at t seats)
    below seats i taken zero some less = absurd (omega (arith, some))
    below seats i taken (suc t) some less = taken t (omega (arith, less))

-- what the job of a deck does to the slots, and its one entry
abbrev Enters : List Account → JobDeck → Seats → Result ℕ LoadError × Seats → Type 0
Enters accounts deck slots l = (entry : Entry) × (load_entry deck l.0 ≡ entry ∷ []) × Loads accounts deck slots entry l.1

enters : (accounts : List Account) (deck : JobDeck) (slots : Seats) (s : ℕ) → first_free slots ≡ Some s → Enters accounts deck slots (job_loaded accounts deck slots)
enters accounts deck slots s free =
    subst (λ (o : Option ℕ). Enters accounts deck slots (loaded_by (option_or (missing NoSlot o) (job_refusal accounts deck)) o (slot_in accounts deck) slots)) (sym free)
    (by (job_refusal accounts deck))
  where
    by : (refusal : Option LoadError) → Enters accounts deck slots (loaded_by refusal (Some s) (slot_in accounts deck) slots)
    by (Some refusal) = (Refused deck refusal, refl, inr (refusal, refl, refl))
    by None = (Entered deck, refl, inl (refl, record { slot = s; lowest = lowest_free slots s free; sits = refl }))

-- who has been loaded has not ended
loaded_going : (deck : JobDeck) (account : Option Account) (program : Option Program) (x : SlotState) → slot_by deck account program ≡ Some x → x.job.ended ≡ None
loaded_going deck None program x h = absurd cc
loaded_going deck (Some a) None x h = absurd cc
loaded_going deck (Some a) (Some p) x h =
    let is : Some (loaded_slot a deck p) ≡ Some x = h in
    let same : loaded_slot a deck p ≡ x = cc (is) in
    ap (λ (y : SlotState). y.job.ended) (sym same)

going_loaded : (accounts : List Account) (deck : JobDeck) (slots : Seats) (refusal : Option LoadError) (n : Option ℕ) → Going slots
    → Going (loaded_by refusal n (slot_in accounts deck) slots).1
going_loaded accounts deck slots (Some refusal) n going = going
going_loaded accounts deck slots None None going = going
going_loaded accounts deck slots None (Some s) going = λ t other at.
    elim (seat_after s t (slot_in accounts deck) slots other at) [
      | inl was ↦ going t other was
      | inr now ↦ loaded_going deck (find_account accounts deck.account) (program_in (statements_of deck.lines)) other now
    ]

-- CARDS

module _ (accounts : List Account) (made : (w : SchedulerState) (m : Marks) → length w.slots ≢ 0 → has_free_slot (room m w).after ≡ true) where
  abbrev stage_after : Event → Marks → SchedulerState → Stage
  stage_after e m f = let p = happened e m (system accounts f) in staged p.after.scheduler.slots p.marks

  abbrev in_turn : SchedulerState → List ℕ
  in_turn f = rounds (turns_left f.slots) (length f.slots)

  card_brings : (e : Event) (m : Marks) (f : SchedulerState) → length f.slots ≢ 0 → Going f.slots
      → Brings accounts e (staged f.slots m) (event_entries e m (system accounts f)) (stage_after e m f)
  card_brings (Serve command) m f some going = (find_account accounts (account_of command), f.sets, (answered accounts f.sets command).answer, refl, refl)
  card_brings (Load deck) m f some going =
      let g = room m f in
      let free = some_free (first_free g.after.slots) (made f m some) in
      let it = enters accounts deck g.after.slots free.0 free.1 in
      let turns = entries_until has_free_slot (in_turn f) m f in (
        turns,
        it.0,
        past_stage g,
        ap (λ (l : List Entry). turns ++ l) it.1,
        (
          each_turn has_free_slot (in_turn f) m f,
          joined has_free_slot (in_turn f) m f,
          rounds_take (list_any is_none) has_free_slot (λ v. free_some 1 v.slots) (length f.slots) (in_turn f) 0 m f refl going (placed_first (length f.slots) (turns_left f.slots)) (made f m some),
        ),
        it.2,
        refl,
      )
  card_brings (Give slot count) m f some going =
      (each_turn never (replicate count slot) m f, joined never (replicate count slot) m f, give_take slot count count 0 m f (omega arith) going)
  card_brings Drain m f some going = (
    each_turn is_done (in_turn f) m f,
    joined is_done (in_turn f) m f,
    rounds_take (list_all is_none) is_done (λ v. refl) (length f.slots) (in_turn f) 0 m f refl going (placed_first (length f.slots) (turns_left f.slots)) (enough is_done f (λ v is h. h) m).stops,
  )

  card_going : (e : Event) (m : Marks) (f : SchedulerState) → Going f.slots → Going (happened e m (system accounts f)).after.scheduler.slots
  card_going (Serve command) m f going = going
  card_going (Load deck) m f going =
      let slots = (room m f).after.slots in
      going_loaded accounts deck slots (option_or (missing NoSlot (first_free slots)) (job_refusal accounts deck)) (first_free slots)
      (going_until has_free_slot (in_turn f) m f going)
  card_going (Give slot count) m f going = going_until never (replicate count slot) m f going
  card_going Drain m f going = going_until is_done (in_turn f) m f going

  module _ (stays : (e : Event) (m : Marks) (w : SystemState) → length (happened e m w).after.scheduler.slots ≡ length w.scheduler.slots) where
    pub cards_bring : (E : List Event) (m : Marks) (f : SchedulerState) → length f.slots ≢ 0 → Going f.slots
        → (let p = played E m (system accounts f) in BringInOrder accounts E (staged f.slots m) (history E m (system accounts f)) (staged p.after.scheduler.slots p.marks))
    cards_bring [] m f some going = (refl, refl)
    cards_bring (e ∷ E) m f some going =
        let p = happened e m (system accounts f) in
        let now = system accounts p.after.scheduler in
        let same : p.after ≡ now = ap (λ (a : List Account). system a p.after.scheduler) (event_accounts e m (system accounts f)) in
        let enough : length p.after.scheduler.slots ≢ 0 = (λ z. some (sym (stays e m (system accounts f)) ∙ z)) in
        let rest = cards_bring E p.marks p.after.scheduler enough (card_going e m f going) in (
          event_entries e m (system accounts f),
          history E p.marks p.after,
          staged p.after.scheduler.slots p.marks,
          refl,
          card_brings e m f some going,
          subst (λ (w : SystemState). (let q = played E p.marks w in BringInOrder accounts E (staged p.after.scheduler.slots p.marks) (history E p.marks w) (staged q.after.scheduler.slots q.marks)))
              (sym same) rest,
        )

-- MARKS

abbrev NoMark : Marks → Type 0
NoMark m = AllByRecursion (λ mark. mark ≡ None) m

abbrev AllUnbroken : List Entry → Type 0
AllUnbroken entries = AllByRecursion IsUnbroken entries

unbroken_both : (xs ys : List Entry) → AllUnbroken xs → AllUnbroken ys → AllUnbroken (xs ++ ys)
unbroken_both [] ys h g = g
unbroken_both (x ∷ xs) ys h g = (h.0, unbroken_both xs ys h.1 g)

unbroken_asked : (x : List Exchanged) → AllUnbroken (map Asked x)
unbroken_asked [] = tt
unbroken_asked (e ∷ x) = (tt, unbroken_asked x)

unbroken_end : (q : Step) (slot : SlotState) → q ≢ step.Ended Memory → AllUnbroken (end_entry (told q slot))
unbroken_end step.Goes slot not = tt
unbroken_end (step.Ended ending) slot not = ((λ is. not (ap (λ (e : Ending). step.Ended e) is)), tt)

no_first : (m : Marks) → NoMark m → mark_of m ≡ None
no_first [] h = refl
no_first (o ∷ m) h = h.0

no_later : (m : Marks) → NoMark m → NoMark (drop 1 m)
no_later [] h = tt
no_later (o ∷ []) h = tt
no_later (o ∷ x ∷ m) h = h.1

not_broken : (mark : Option Mark) (s : ℕ) (slot : SlotState) (before : Seats) (entries : List Entry) (after : Seats) → mark ≡ None
    → (t : IsTurn mark s slot before entries after) → t.end ≢ step.Ended Memory
not_broken mark s slot before entries after none t = elim t.asks [
  | inl h ↦ h.1
  | inr b ↦ absurd (let e : None ≡ Some b.at = sym none ∙ b.stands in cc (e))
]

one_unbroken : (mark : Option Mark) (s : ℕ) (o : Option SlotState) (before : Seats) (entries : List Entry) (after : Seats) → mark ≡ None
    → TurnOf mark s o before entries after → AllUnbroken entries
one_unbroken mark s None before entries after none h = subst AllUnbroken (sym h.0) tt
one_unbroken mark s (Some slot) before entries after none t =
    let left = left_as slot t.job t.units in
    subst AllUnbroken (sym t.adds)
    (unbroken_both (map Asked t.asked) (end_entry (told t.end left)) (unbroken_asked t.asked) (unbroken_end t.end left (not_broken mark s slot before entries after none t)))

take_unbroken : (due : ℕ → Seats → Option ℕ) (i : ℕ) (before : Stage) (turns : List (List Entry)) (after : Stage) → Take due i before turns after
    → NoMark before.marks → AllUnbroken (flat_map (λ added. added) turns) × NoMark after.marks
take_unbroken due i before [] after h none = (tt, subst (λ (x : Stage). NoMark x.marks) (sym h.1) none)
take_unbroken due i before (added ∷ more) after h none =
    let rest = take_unbroken due (suc i) (staged h.1 (drop 1 before.marks)) more after h.4 (no_later before.marks none) in (
      unbroken_both added (flat_map (λ added. added) more)
          (one_unbroken (mark_of before.marks) h.0 (seat_at h.0 before.seats) before.seats added h.1 (no_first before.marks none) h.3) rest.0,
      rest.1,
    )

turns_unbroken : (due : ℕ → Seats → Option ℕ) (before : Stage) (entries : List Entry) (after : Stage) → Turns due before entries after
    → NoMark before.marks → AllUnbroken entries × NoMark after.marks
turns_unbroken due before entries after h none =
    let all = take_unbroken due 0 before h.0 after h.2 none in
    (subst AllUnbroken (sym h.1) all.0, all.1)

load_unbroken : (accounts : List Account) (deck : JobDeck) (before : Seats) (entry : Entry) (after : Seats) → Loads accounts deck before entry after → IsUnbroken entry
load_unbroken accounts deck before entry after (inl h) = subst IsUnbroken (sym h.0) tt
load_unbroken accounts deck before entry after (inr h) = subst IsUnbroken (sym h.1) tt

card_unbroken : (accounts : List Account) (e : Event) (before : Stage) (entries : List Entry) (after : Stage) → Brings accounts e before entries after
    → NoMark before.marks → AllUnbroken entries × NoMark after.marks
card_unbroken accounts (Serve command) before entries after h none =
    (subst AllUnbroken (sym h.3) (tt, tt), subst (λ (x : Stage). NoMark x.marks) (sym h.4) none)
card_unbroken accounts (Load deck) before entries after h none =
    let all = turns_unbroken (in_rounds (list_any is_none)) before h.0 h.2 h.4 none in (
      subst AllUnbroken (sym h.3) (unbroken_both h.0 (h.1 ∷ []) all.0 (load_unbroken accounts deck h.2.seats h.1 after.seats h.5, tt)),
      subst NoMark (sym h.6) all.1,
    )
card_unbroken accounts (Give slot count) before entries after h none = turns_unbroken (given slot count) before entries after h none
card_unbroken accounts Drain before entries after h none = turns_unbroken (in_rounds (list_all is_none)) before entries after h none

pub unbroken : (accounts : List Account) (E : List Event) (before : Stage) (entries : List Entry) (after : Stage) → BringInOrder accounts E before entries after
    → NoMark before.marks → AllUnbroken entries
unbroken accounts [] before entries after h none = subst AllUnbroken (sym h.0) tt
unbroken accounts (e ∷ E) before entries after h none =
    let here = card_unbroken accounts e before h.0 h.2 h.4 none in
    subst AllUnbroken (sym h.3) (unbroken_both h.0 h.1 here.0 (unbroken accounts E h.2 h.1 after h.5 here.1))

-- ALL OF IT

pub turns_come : RoomIsMade → SlotsStay → TurnsCome
turns_come made stay slots accounts sets events m some =
    let w = first_system slots accounts sets in
    let p = played events m w in
    let all = cards_bring accounts made (λ e m w. stay (e ∷ []) m w) events m w.scheduler (λ z. some (sym (so_many slots) ∙ z)) (λ s slot at. absurd (none_first slots s slot at)) in
    (all, unbroken accounts events (staged (no_jobs slots) m) (history events m w) (staged p.after.scheduler.slots p.marks) all)
