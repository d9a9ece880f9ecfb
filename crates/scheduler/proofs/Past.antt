-- Turns until a scheduler is one to stop at, and rounds of them.
use Rattle.std.proofs.Common.{◌≡◌, ◌≢◌, ℕ, zero, suc, ◌+◌, ◌≤◌, Bool, true, false, List, [], ◌∷◌, ◌++◌, length, Option, Some, None, refl, ap, sym, ◌∙◌, subst, inl, inr, arith, append_assoc, append-nil, ◌⊎◌, if◌then◌else◌, slice_get, slice_set, is_some, is_none, drop}
use Rattle.scheduler.proofs.Common.{AllByRecursion, list_all, range_with_len, option_flatten, Sets, Step, serve, JobEnd, SlotState, SchedulerState, seat_at, with_seat, job_in, first_free, reached, ran, after_turn, seat, turned, turn_by, ends_by, Mark, Marks, mark_of, may_break, ran_as, turn_as, Past, nothing, until, marked, rounds, turns_left, is_done, has_free_slot, drain, room, ends_then, Unmarked, NoneByMemory, TakesOneMark, AtLast, Enough, Memory, Turned, Ended}
use Rattle.sno_run.specs.declared.ending.Step.TheVariants as step
use Rattle.scheduler.specs.Turns.{turn}
use Rattle.scheduler.proofs.{Begun.{Less, job_less}, Seats.{seat_length, none_at}, Shorthand.{turns_ahead, turn_as_by, broken_by}}

pub either_way : (b : Bool) → (b ≡ true) ⊎ (b ≡ false)
either_way true = inl refl
either_way false = inr refl

broken_less : (b : Bool) (m : Mark) (slot : SlotState) (sets : Sets) → Less slot.job (broken_by b m slot sets).0.0 (broken_by b m slot sets).0.1
broken_less false m slot sets = job_less (serve slot.account) slot.job (reached sets slot)
broken_less true m slot sets = inl (Memory, refl)

slot_less : (m : Option Mark) (slot : SlotState) (sets : Sets) → Less slot.job (ran_as m slot sets).0.0 (ran_as m slot sets).0.1
slot_less None slot sets = job_less (serve slot.account) slot.job (reached sets slot)
slot_less (Some m) slot sets = broken_less (may_break slot.job) m slot sets

seat_less : (st : Step) (slot slot' : SlotState) → Less slot.job st slot'.job → suc (turns_ahead (seat st slot')) ≤ turns_ahead (Some slot)
seat_less step.Goes slot slot' (inl h) = absurd (let k : step.Goes ≡ step.Ended h.0 = h.1 in cc (k))
seat_less step.Goes slot slot' (inr h) = omega (arith, h)
seat_less (step.Ended e) slot slot' h = omega arith

set_less : (slots : List (Option SlotState)) (i : ℕ) (slot : SlotState) (o : Option SlotState) → option_flatten (slice_get slots i) ≡ Some slot → suc (turns_ahead o) ≤ turns_ahead (Some slot)
    → suc (turns_left (slice_set slots i o)) ≤ turns_left slots
set_less [] i slot o h g = absurd cc
set_less (x ∷ slots) zero slot o h g =
    let e : x ≡ Some slot = h in
    subst (λ (y : Option SlotState). suc (turns_ahead o + turns_left slots) ≤ turns_ahead y + turns_left slots) (sym e) (omega (arith, g))
set_less (x ∷ slots) (suc i) slot o h g = omega (arith, (set_less slots i slot o h g))

pub with_less : (s : ℕ) (slots : List (Option SlotState)) (slot : SlotState) (o : Option SlotState) → seat_at s slots ≡ Some slot → suc (turns_ahead o) ≤ turns_ahead (Some slot)
    → suc (turns_left (with_seat s o slots)) ≤ turns_left slots
with_less zero slots slot o h g = absurd cc
with_less (suc i) slots slot o h g = set_less slots i slot o h g

-- one turn: of an empty slot, or it leaves fewer
abbrev pub Falls : ℕ → SchedulerState → SchedulerState → Type 0
Falls s w w' = ((job_in s w ≡ None) × (w' ≡ w)) ⊎ (suc (turns_left w'.slots) ≤ turns_left w.slots)

falls_by : (m : Option Mark) (s : ℕ) (w : SchedulerState) (o : Option SlotState) → job_in s w ≡ o → Falls s w (turn_as_by m s o w).1
falls_by m s w None e = inl (e, refl)
falls_by m s w (Some slot) e =
    let r = ran_as m slot w.sets in
    inr (with_less s w.slots slot (seat r.0.0 (after_turn slot r)) e (seat_less r.0.0 slot (after_turn slot r) (slot_less m slot w.sets)))

pub falls : (m : Option Mark) (s : ℕ) (w : SchedulerState) → Falls s w (turn_as m s w).1
falls m s w = falls_by m s w (job_in s w) refl

length_by : (m : Option Mark) (s : ℕ) (w : SchedulerState) (o : Option SlotState) → length (turn_as_by m s o w).1.slots ≡ length w.slots
length_by m s w None = refl
length_by m s w (Some slot) = seat_length s (seat (ran_as m slot w.sets).0.0 (after_turn slot (ran_as m slot w.sets))) w.slots

pub turn_length : (m : Option Mark) (s : ℕ) (w : SchedulerState) → length (turn_as m s w).1.slots ≡ length w.slots
turn_length m s w = length_by m s w (job_in s w)

module _ (stop : SchedulerState → Bool) where
  pub until_stops : (E : List ℕ) (m : Marks) (w : SchedulerState) → stop w ≡ true → until stop E m w ≡ nothing m w
  until_stops [] m w h = refl
  until_stops (s ∷ E) m w h = ap (λ (b : Bool). if b then nothing m w
      else ends_then (ends_by s (turn_as (mark_of m) s w).0) (until stop E (drop 1 m) (turn_as (mark_of m) s w).1)) h

  pub until_goes : (s : ℕ) (E : List ℕ) (m : Marks) (w : SchedulerState) → stop w ≡ false
      → until stop (s ∷ E) m w ≡ ends_then (ends_by s (turn_as (mark_of m) s w).0) (until stop E (drop 1 m) (turn_as (mark_of m) s w).1)
  until_goes s E m w h = ap (λ (b : Bool). if b then nothing m w
      else ends_then (ends_by s (turn_as (mark_of m) s w).0) (until stop E (drop 1 m) (turn_as (mark_of m) s w).1)) h

  abbrev pub after_past : List ℕ → Past → Past
  after_past F p = ends_then p.ends (until stop F p.marks p.after)

  pub until_append : (E F : List ℕ) (m : Marks) (w : SchedulerState) → until stop (E ++ F) m w ≡ after_past F (until stop E m w)
  until_append [] F m w = refl
  until_append (s ∷ E) F m w = elim (either_way (stop w)) [
    | inl h ↦
        until_stops (s ∷ E ++ F) m w h
        ∙ sym (ap (after_past F) (until_stops (s ∷ E) m w h) ∙ ap (λ (p : Past). ends_then [] p) (until_stops F m w h))
    | inr h ↦
        let t = turn_as (mark_of m) s w in
        let e = ends_by s t.0 in
        let p = until stop E (drop 1 m) t.1 in
        until_goes s (E ++ F) m w h
        ∙ ap (ends_then e) (until_append E F (drop 1 m) t.1)
        ∙ ap (λ (l : List (ℕ × JobEnd)). let q : Past = record { ends = l; after = (until stop F p.marks p.after).after; marks = (until stop F p.marks p.after).marks } in q)
        (sym (append_assoc e p.ends (until stop F p.marks p.after).ends))
        ∙ sym (ap (after_past F) (until_goes s E m w h))
  ]

  pub until_length : (E : List ℕ) (m : Marks) (w : SchedulerState) → length (until stop E m w).after.slots ≡ length w.slots
  until_length [] m w = refl
  until_length (s ∷ E) m w = elim (either_way (stop w)) [
    | inl h ↦ ap (λ (p : Past). length p.after.slots) (until_stops (s ∷ E) m w h)
    | inr h ↦
        ap (λ (p : Past). length p.after.slots) (until_goes s E m w h) ∙ until_length E (drop 1 m) (turn_as (mark_of m) s w).1
        ∙ turn_length (mark_of m) s w
  ]

  -- some turns: fewer are left, or nothing has changed, as it was one to stop at or these slots were empty
  abbrev pub Went : List ℕ → SchedulerState → SchedulerState → Type 0
  Went E w w' = (suc (turns_left w'.slots) ≤ turns_left w.slots) ⊎ ((w' ≡ w) × ((stop w ≡ true) ⊎ AllByRecursion (λ s. job_in s w ≡ None) E))

  pub went : (E : List ℕ) (m : Marks) (w : SchedulerState) → Went E w (until stop E m w).after
  went [] m w = inr (refl, inr tt)
  went (s ∷ E) m w = elim (either_way (stop w)) [
    | inl h ↦ inr (ap (λ (p : Past). p.after) (until_stops (s ∷ E) m w h), inl h)
    | inr h ↦
        subst (λ (p : Past). Went (s ∷ E) w p.after) (sym (until_goes s E m w h))
        (more (turn_as (mark_of m) s w).1 (until stop E (drop 1 m) (turn_as (mark_of m) s w).1).after (falls (mark_of m) s w) (went E (drop 1 m) (turn_as (mark_of m) s w).1))
  ]
    where
      empty_too : (v : SchedulerState) → v ≡ w → job_in s w ≡ None → (stop v ≡ true) ⊎ AllByRecursion (λ t. job_in t v ≡ None) E → (stop w ≡ true) ⊎ AllByRecursion (λ t. job_in t w ≡ None) (s ∷ E)
      empty_too v is none (inl h) = inl (sym (ap stop is) ∙ h)
      empty_too v is none (inr h) = inr (none, subst (λ (x : SchedulerState). AllByRecursion (λ t. job_in t x ≡ None) E) is h)

      more : (v w' : SchedulerState) → Falls s w v → Went E v w' → Went (s ∷ E) w w'
      more v w' (inl f) (inl h) = inl (subst (λ (x : SchedulerState). suc (turns_left w'.slots) ≤ turns_left x.slots) f.1 h)
      more v w' (inr f) (inl h) = inl (omega (arith, f, h))
      more v w' (inl f) (inr h) = inr (h.0 ∙ f.1, empty_too v f.1 f.0 h.1)
      more v w' (inr f) (inr h) = inl (subst (λ (x : SchedulerState). suc (turns_left x.slots) ≤ turns_left w.slots) (sym h.0) f)

-- slots that are all empty
shift : (P : ℕ → Type 0) (i n : ℕ) → AllByRecursion P (range_with_len (suc i) n) → AllByRecursion (λ k. P (suc k)) (range_with_len i n)
shift P i zero h = tt
shift P i (suc n) h =
    let e : suc i + 1 ≡ suc (i + 1) = omega arith in
    (h.0, shift P (i + 1) n (subst (λ (k : ℕ). AllByRecursion P (range_with_len k n)) e h.1))

empties : (slots : List (Option SlotState)) → AllByRecursion (λ i. option_flatten (slice_get slots i) ≡ None) (range_with_len 0 (length slots)) → list_all is_none slots ≡ true
empties [] h = refl
empties (None ∷ slots) h = empties slots (shift (λ i. option_flatten (slice_get (None ∷ slots) i) ≡ None) 0 (length slots) h.1)
empties (Some x ∷ slots) h = absurd (let k : Some x ≡ None = h.0 in cc (k))

all_in : (slots : List (Option SlotState)) → AllByRecursion (λ s. seat_at s slots ≡ None) (range_with_len 1 (length slots)) → list_all is_none slots ≡ true
all_in slots h = empties slots (shift (λ s. seat_at s slots ≡ None) 0 (length slots) h)

pub none_left : (slots : List (Option SlotState)) → turns_left slots ≤ 0 → list_all is_none slots ≡ true
none_left [] h = refl
none_left (None ∷ slots) h = none_left slots (omega (arith, h))
none_left (Some x ∷ slots) h = absurd (omega (arith, h))

module _ (stop : SchedulerState → Bool) (size : ℕ) (at_last : (v : SchedulerState) → length v.slots ≡ size → is_done v ≡ true → stop v ≡ true) where
  -- a round leaves fewer turns
  pub round_falls : (m : Marks) (w : SchedulerState) → length w.slots ≡ size → stop w ≡ false → suc (turns_left (until stop (range_with_len 1 size) m w).after.slots) ≤ turns_left w.slots
  round_falls m w is busy = by (went stop (range_with_len 1 size) m w)
    where
      not_stopped : {A : Type 0} → stop w ≡ true → A
      not_stopped h = absurd (let k : true ≡ false = sym h ∙ busy in cc (k))

      by : Went stop (range_with_len 1 size) w (until stop (range_with_len 1 size) m w).after → suc (turns_left (until stop (range_with_len 1 size) m w).after.slots) ≤ turns_left w.slots
      by (inl h) = h
      by (inr (e, inl h)) = not_stopped h
      by (inr (e, inr h)) = not_stopped (at_last w is (all_in w.slots (subst (λ (n : ℕ). AllByRecursion (λ s. job_in s w ≡ None) (range_with_len 1 n)) (sym is) h)))

  pub rounds_stop : (n : ℕ) (m : Marks) (w : SchedulerState) → length w.slots ≡ size → turns_left w.slots ≤ n → stop (until stop (rounds n size) m w).after ≡ true
  rounds_stop zero m w is h = at_last w is (none_left w.slots h)
  rounds_stop (suc n) m w is h = elim (either_way (stop w)) [
    | inl k ↦ ap (λ (q : Past). stop q.after) (until_stops stop (rounds (suc n) size) m w k) ∙ k
    | inr k ↦
        let p = until stop (range_with_len 1 size) m w in
        let less = round_falls m w is k in
        ap (λ (q : Past). stop q.after) (until_append stop (range_with_len 1 size) (rounds n size) m w)
        ∙ rounds_stop n p.marks p.after (until_length stop (range_with_len 1 size) m w ∙ is) (omega (arith, h, less))
  ]

  pub rounds_same : (n k : ℕ) (m : Marks) (w : SchedulerState) → length w.slots ≡ size → turns_left w.slots ≤ n → turns_left w.slots ≤ k
      → until stop (rounds n size) m w ≡ until stop (rounds k size) m w
  rounds_same zero k m w is h g =
      let now = at_last w is (none_left w.slots h) in
      sym (until_stops stop (rounds k size) m w now)
  rounds_same (suc n) zero m w is h g =
      let now = at_last w is (none_left w.slots g) in
      until_stops stop (rounds (suc n) size) m w now
  rounds_same (suc n) (suc k) m w is h g = elim (either_way (stop w)) [
    | inl e ↦ until_stops stop (rounds (suc n) size) m w e ∙ sym (until_stops stop (rounds (suc k) size) m w e)
    | inr e ↦
        let p = until stop (range_with_len 1 size) m w in
        let less = round_falls m w is e in
        until_append stop (range_with_len 1 size) (rounds n size) m w
        ∙ ap (ends_then p.ends) (rounds_same n k p.marks p.after (until_length stop (range_with_len 1 size) m w ∙ is) (omega (arith, h, less)) (omega (arith, g, less)))
        ∙ sym (until_append stop (range_with_len 1 size) (rounds k size) m w)
  ]

pub enough : (stop : SchedulerState → Bool) (w : SchedulerState) → AtLast stop w → (m : Marks) → Enough stop w m
enough stop w at_last m = record {
  stops = rounds_stop stop (length w.slots) at_last (turns_left w.slots) m w refl (omega arith);
  same = λ n h. rounds_same stop (length w.slots) at_last n (turns_left w.slots) m w refl h (omega arith);
}

pub drain_empties : (w : SchedulerState) (m : Marks) (s : ℕ) → job_in s (drain m w).after ≡ None
drain_empties w m s = none_at (drain m w).after.slots (enough is_done w (λ v is h. h) m).stops s

pub first_is_free : (slots : List (Option SlotState)) → length slots ≢ 0 → list_all is_none slots ≡ true → is_some (first_free slots) ≡ true
first_is_free [] h g = absurd (h refl)
first_is_free (None ∷ slots) h g = refl
first_is_free (Some x ∷ slots) h g = absurd cc

pub room_at_last : (size : ℕ) → size ≢ 0 → (v : SchedulerState) → length v.slots ≡ size → is_done v ≡ true → has_free_slot v ≡ true
room_at_last size some v is h = first_is_free v.slots (λ e. some (sym is ∙ e)) h

pub room_is_made : (w : SchedulerState) (m : Marks) → length w.slots ≢ 0 → has_free_slot (room m w).after ≡ true
room_is_made w m some = (enough has_free_slot w (room_at_last (length w.slots) some) m).stops

-- without marks
turn_unmarked_by : (s : ℕ) (o : Option SlotState) (w : SchedulerState) → turn_as_by None s o w ≡ turn_by s o w
turn_unmarked_by s None w = refl
turn_unmarked_by s (Some slot) w = refl

pub turn_unmarked : (s : ℕ) (w : SchedulerState) → turn_as None s w ≡ turn s w
turn_unmarked s w = turn_unmarked_by s (job_in s w) w

pub unmarked : (w : SchedulerState) (E : List ℕ) → Unmarked w E
unmarked w [] = record { ends = refl; after = refl; marks = refl }
unmarked w (s ∷ E) =
    let one = turn_unmarked s w in
    let rest = unmarked (turn s w).1 E in
    record {
      ends = ap (λ (t : Turned × SchedulerState). ends_by s t.0 ++ (marked E [] t.1).ends) one ∙ ap (λ (l : List (ℕ × JobEnd)). ends_by s (turn s w).0 ++ l) rest.ends;
      after = ap (λ (t : Turned × SchedulerState). (marked E [] t.1).after) one ∙ rest.after;
      marks = ap (λ (t : Turned × SchedulerState). (marked E [] t.1).marks) one ∙ rest.marks;
    }

-- a mark ends a job, or has no effect
pub mark_ends_by : (m : Option Mark) (s : ℕ) (o : Option SlotState) (w : SchedulerState)
    → (turn_as_by m s o w ≡ turn_as_by None s o w) ⊎ ((e : JobEnd) × ((turn_as_by m s o w).0 ≡ Ended e) × (e.ending ≡ Memory))
mark_ends_by m s None w = inl refl
mark_ends_by None s (Some slot) w = inl refl
mark_ends_by (Some k) s (Some slot) w = by (may_break slot.job)
  where
    by : (b : Bool) → (turned s (broken_by b k slot w.sets) slot w ≡ turned s (ran slot w.sets) slot w)
        ⊎ ((e : JobEnd) × ((turned s (broken_by b k slot w.sets) slot w).0 ≡ Ended e) × (e.ending ≡ Memory))
    by false = inl refl
    by true = inr (_, refl, refl)

parted : (xs ys : List (ℕ × JobEnd)) → NoneByMemory (xs ++ ys) → NoneByMemory xs × NoneByMemory ys
parted [] ys h = (tt, h)
parted (x ∷ xs) ys h = let rest = parted xs ys h.1 in ((h.0, rest.0), rest.1)

-- turns in which no job ends for want of memory are those without marks
pub marks_end_jobs : (stop : SchedulerState → Bool) (w : SchedulerState) (E : List ℕ) (m : Marks) → NoneByMemory (until stop E m w).ends
    → ((until stop E m w).ends ≡ (until stop E [] w).ends) × ((until stop E m w).after ≡ (until stop E [] w).after)
marks_end_jobs stop w [] m none = (refl, refl)
marks_end_jobs stop w (s ∷ E) m none = elim (either_way (stop w)) [
  | inl h ↦
      let e = until_stops stop (s ∷ E) m w h in
      let f = until_stops stop (s ∷ E) [] w h in
      (ap (λ (p : Past). p.ends) e ∙ sym (ap (λ (p : Past). p.ends) f), ap (λ (p : Past). p.after) e ∙ sym (ap (λ (p : Past). p.after) f))
  | inr h ↦
      let t = turn_as (mark_of m) s w in
      let e = until_goes stop s E m w h in
      let f = until_goes stop s E [] w h in
      let parts = parted (ends_by s t.0) (until stop E (drop 1 m) t.1).ends (subst (λ (p : Past). NoneByMemory p.ends) e none) in
      elim (mark_ends_by (mark_of m) s (job_in s w) w) [
        | inl k ↦
            let one : t ≡ turn_as None s w = k in
            let rest = marks_end_jobs stop t.1 E (drop 1 m) parts.1 in (
              ap (λ (p : Past). p.ends) e ∙ ap (λ (l : List (ℕ × JobEnd)). ends_by s t.0 ++ l) rest.0
                  ∙ ap (λ (u : Turned × SchedulerState). ends_by s u.0 ++ (until stop E [] u.1).ends) one ∙ sym (ap (λ (p : Past). p.ends) f),
              ap (λ (p : Past). p.after) e ∙ rest.1
                  ∙ ap (λ (u : Turned × SchedulerState). (until stop E [] u.1).after) one ∙ sym (ap (λ (p : Past). p.after) f),
            )
        | inr b ↦ absurd ((subst (λ (u : Turned). NoneByMemory (ends_by s u)) b.1 parts.0).0 b.2)
      ]
]

pub one_mark : TakesOneMark
one_mark s m rest w =
    let t = turn_as m s w in
    ap (λ (l : List (ℕ × JobEnd)). let p : Past = record { ends = l; after = t.1; marks = rest } in p) (append-nil (ends_by s t.0))
