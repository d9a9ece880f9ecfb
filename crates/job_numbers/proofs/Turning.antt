-- Turns of jobs that have other numbers.
use Rattle.std.proofs.Common.{◌≡◌, ℕ, Bool, true, false, List, [], ◌∷◌, ◌++◌, length, Option, Some, None, refl, sym, ap, ap₂, ◌∙◌, map, take, drop}
use Rattle.std.{specs.Prelude.{if◌then◌else◌}, proofs.lemmas.List.{map-append, length-map, take-map}}
use Rattle.mon_monitor.proofs.Common.{Account, Asking, Asks, Returns, Reach, serve, Step, Sets, SlotState, SchedulerState, with_seat, job_in, ran_as, after_turn, job_end, seat, told, turn_of, reached, Mark, Marks, mark_of, exchanges_at, may_break, turn_as, turn_as_by, Past, nothing, until, rounds, turns_left, rounds_until, ends_by, JobEnd, Turned, Empty, Goes, Exchanged, asked_by, asked_in, whole_turn, Asked, end_entry, turn_entries, entries_until, entries_of_rounds, Entry}
use Rattle.sno_run.specs.declared.ending.Step.TheVariants as step
use Rattle.job_end.specs.declared.turned.Turned.TheVariants.{Ended}
use Rattle.job_numbers.specs.Numbers.{end_as, exchanged_as, entry_as}
use Rattle.job_numbers.proofs.Seating.{slot_as, seat_as, seats_as, scheduler_as, seat_at_as, with_seat_as, turns_left_as}

abbrev pub answer_as : (ℕ → ℕ) → Turned → Turned
answer_as f Empty = Empty
answer_as f Goes = Goes
answer_as f (Ended end) = Ended (end_as f end)

abbrev pub both_as : (ℕ → ℕ) → Turned × SchedulerState → Turned × SchedulerState
both_as f t = (answer_as f t.0, scheduler_as f t.1)

abbrev pub at_end : (ℕ → ℕ) → ℕ × JobEnd → ℕ × JobEnd
at_end f e = (e.0, end_as f e.1)

abbrev pub past_as : (ℕ → ℕ) → Past → Past
past_as f p = record { ends = map (at_end f) p.ends; after = scheduler_as f p.after; marks = p.marks }

module _ (f : ℕ → ℕ) where
  -- TURNS

  -- what a step leaves, in such a slot, over these data sets
  abbrev stepped : Step → SlotState → Sets → ℕ → List (Option SlotState) → Turned × SchedulerState
  stepped st slot sets s slots = (told st slot, record { sets = sets; slots = with_seat s (seat st slot) slots })

  step_as : (st : Step) (slot : SlotState) (sets : Sets) (s : ℕ) (slots : List (Option SlotState))
      → stepped st (slot_as f slot) sets s (seats_as f slots) ≡ both_as f (stepped st slot sets s slots)
  step_as step.Goes slot sets s slots =
      ap (λ (l : List (Option SlotState)). let t : Turned × SchedulerState = (Goes, record { sets = sets; slots = l }) in t) (with_seat_as f s (Some slot) slots)
  step_as (step.Ended ending) slot sets s slots =
      ap (λ (l : List (Option SlotState)). let t : Turned × SchedulerState = (Ended (job_end (slot_as f slot) ending), record { sets = sets; slots = l }) in t) (with_seat_as f s None slots)

  turn_by_as : (m : Option Mark) (s : ℕ) (o : Option SlotState) (w : SchedulerState) → turn_as_by m s (seat_as f o) (scheduler_as f w) ≡ both_as f (turn_as_by m s o w)
  turn_by_as m s None w = refl
  turn_by_as m s (Some slot) w = let r = ran_as m slot w.sets in step_as r.0.0 (after_turn slot r) r.1.sets s w.slots

  turn_is : (m : Option Mark) (s : ℕ) (w : SchedulerState) → turn_as m s (scheduler_as f w) ≡ both_as f (turn_as m s w)
  turn_is m s w = ap (λ (o : Option SlotState). turn_as_by m s o (scheduler_as f w)) (seat_at_as f s w.slots) ∙ turn_by_as m s (job_in s w) w

  ends_as : (s : ℕ) (t : Turned) → ends_by s (answer_as f t) ≡ map (at_end f) (ends_by s t)
  ends_as s Empty = refl
  ends_as s Goes = refl
  ends_as s (Ended end) = refl

  abbrev with_ends : List (ℕ × JobEnd) → Past → Past
  with_ends ends p = record { ends = ends; after = p.after; marks = p.marks }

  -- the turns behind one
  abbrev goes_on : (SchedulerState → Bool) → ℕ → List ℕ → Marks → Turned × SchedulerState → Past
  goes_on stop s E m t = let later = until stop E (drop 1 m) t.1 in with_ends (ends_by s t.0 ++ later.ends) later

  -- WHAT IS ASKED

  asked_by_as : {A : Type 0} (n : ℕ) (account : Account) (t : Asking A) (reach : Reach) → asked_by (f n) account t reach ≡ map (exchanged_as f) (asked_by n account t reach)
  asked_by_as n account (Returns a) reach = refl
  asked_by_as n account (Asks q g) reach =
      ap (λ (l : List Exchanged). let e : Exchanged = record { number = f n; account = account; reach = reach; request = q; answer = (serve account reach q).0 } in e ∷ l)
      (asked_by_as n account (g (serve account reach q).0) (serve account reach q).1)

  whole_as : (slot : SlotState) (sets : Sets) → whole_turn (slot_as f slot) sets ≡ map (exchanged_as f) (whole_turn slot sets)
  whole_as slot sets = asked_by_as slot.number slot.account (turn_of slot.job) (reached sets slot)

  asked_in_as : (m : Option Mark) (o : Option SlotState) (sets : Sets) → asked_in m (seat_as f o) sets ≡ map (exchanged_as f) (asked_in m o sets)
  asked_in_as None None sets = refl
  asked_in_as (Some m) None sets = refl
  asked_in_as None (Some slot) sets = whole_as slot sets
  asked_in_as (Some m) (Some slot) sets = by (may_break slot.job)
    where
      by : (b : Bool) → (if b then take (exchanges_at m slot sets) (whole_turn (slot_as f slot) sets) else whole_turn (slot_as f slot) sets)
          ≡ map (exchanged_as f) (if b then take (exchanges_at m slot sets) (whole_turn slot sets) else whole_turn slot sets)
      by true = ap (λ (l : List Exchanged). take (exchanges_at m slot sets) l) (whole_as slot sets) ∙ take-map (exchanged_as f) (exchanges_at m slot sets) (whole_turn slot sets)
      by false = whole_as slot sets

  asked_entries : (asked : List Exchanged) → map Asked (map (exchanged_as f) asked) ≡ map (entry_as f) (map Asked asked)
  asked_entries [] = refl
  asked_entries (e ∷ asked) = ap (λ (l : List Entry). Asked (exchanged_as f e) ∷ l) (asked_entries asked)

  end_entries : (t : Turned) → end_entry (answer_as f t) ≡ map (entry_as f) (end_entry t)
  end_entries Empty = refl
  end_entries Goes = refl
  end_entries (Ended end) = refl

  turn_entries_as : (m : Option Mark) (s : ℕ) (w : SchedulerState) → turn_entries m s (scheduler_as f w) ≡ map (entry_as f) (turn_entries m s w)
  turn_entries_as m s w =
      let asked = asked_in m (job_in s w) w.sets in
      ap₂ (λ (l k : List Entry). l ++ k)
      (ap (λ (o : Option SlotState). map Asked (asked_in m o w.sets)) (seat_at_as f s w.slots) ∙ ap (map Asked) (asked_in_as m (job_in s w) w.sets) ∙ asked_entries asked)
      (ap (λ (t : Turned × SchedulerState). end_entry t.0) (turn_is m s w) ∙ end_entries (turn_as m s w).0)
      ∙ sym (map-append (entry_as f) (map Asked asked) (end_entry (turn_as m s w).0))

  -- UNTIL ONE TO STOP AT

  module _ (stop : SchedulerState → Bool) (same : (w : SchedulerState) → stop (scheduler_as f w) ≡ stop w) where
    pub until_as : (E : List ℕ) (m : Marks) (w : SchedulerState) → until stop E m (scheduler_as f w) ≡ past_as f (until stop E m w)
    until_as [] m w = refl
    until_as (s ∷ E) m w =
        let t = turn_as (mark_of m) s w in
        ap (λ (b : Bool). if b then nothing m (scheduler_as f w) else goes_on stop s E m (turn_as (mark_of m) s (scheduler_as f w))) (same w)
        ∙ ap (λ (u : Turned × SchedulerState). if stop w then nothing m (scheduler_as f w) else goes_on stop s E m u) (turn_is (mark_of m) s w)
        ∙ by (stop w) (until_as E (drop 1 m) t.1)
      where
        by : (b : Bool) → until stop E (drop 1 m) (scheduler_as f (turn_as (mark_of m) s w).1) ≡ past_as f (until stop E (drop 1 m) (turn_as (mark_of m) s w).1)
            → (if b then nothing m (scheduler_as f w) else goes_on stop s E m (both_as f (turn_as (mark_of m) s w)))
            ≡ past_as f (if b then nothing m w else goes_on stop s E m (turn_as (mark_of m) s w))
        by true later = refl
        by false later =
            let t = turn_as (mark_of m) s w in
            let p = until stop E (drop 1 m) t.1 in
            ap (λ (q : Past). with_ends (ends_by s (answer_as f t.0) ++ q.ends) q) later
            ∙ ap (λ (l : List (ℕ × JobEnd)). with_ends l (past_as f p))
            (ap (λ (l : List (ℕ × JobEnd)). l ++ map (at_end f) p.ends) (ends_as s t.0) ∙ sym (map-append (at_end f) (ends_by s t.0) p.ends))

    pub rounds_as : (m : Marks) (w : SchedulerState) → rounds_until stop m (scheduler_as f w) ≡ past_as f (rounds_until stop m w)
    rounds_as m w =
        ap₂ (λ (k n : ℕ). until stop (rounds k n) m (scheduler_as f w)) (turns_left_as f w.slots) (length-map w.slots (seat_as f))
        ∙ until_as (rounds (turns_left w.slots) (length w.slots)) m w

    pub entries_as : (E : List ℕ) (m : Marks) (w : SchedulerState) → entries_until stop E m (scheduler_as f w) ≡ map (entry_as f) (entries_until stop E m w)
    entries_as [] m w = refl
    entries_as (s ∷ E) m w =
        let t = turn_as (mark_of m) s w in
        ap (λ (b : Bool). if b then [] else turn_entries (mark_of m) s (scheduler_as f w) ++ entries_until stop E (drop 1 m) (turn_as (mark_of m) s (scheduler_as f w)).1) (same w)
        ∙ by (stop w) (entries_as E (drop 1 m) t.1)
      where
        by : (b : Bool) → entries_until stop E (drop 1 m) (scheduler_as f (turn_as (mark_of m) s w).1) ≡ map (entry_as f) (entries_until stop E (drop 1 m) (turn_as (mark_of m) s w).1)
            → (if b then [] else turn_entries (mark_of m) s (scheduler_as f w) ++ entries_until stop E (drop 1 m) (turn_as (mark_of m) s (scheduler_as f w)).1)
            ≡ map (entry_as f) (if b then [] else turn_entries (mark_of m) s w ++ entries_until stop E (drop 1 m) (turn_as (mark_of m) s w).1)
        by true later = refl
        by false later =
            ap₂ (λ (l k : List Entry). l ++ k) (turn_entries_as (mark_of m) s w)
            (ap (λ (u : Turned × SchedulerState). entries_until stop E (drop 1 m) u.1) (turn_is (mark_of m) s w) ∙ later)
            ∙ sym (map-append (entry_as f) (turn_entries (mark_of m) s w) (entries_until stop E (drop 1 m) (turn_as (mark_of m) s w).1))

    pub rounds_told : (m : Marks) (w : SchedulerState) → entries_of_rounds stop m (scheduler_as f w) ≡ map (entry_as f) (entries_of_rounds stop m w)
    rounds_told m w =
        ap₂ (λ (k n : ℕ). entries_until stop (rounds k n) m (scheduler_as f w)) (turns_left_as f w.slots) (length-map w.slots (seat_as f))
        ∙ entries_as (rounds (turns_left w.slots) (length w.slots)) m w
