-- Turns of one slot, until it is empty.
use Rattle.std.proofs.Common.{◌≡◌, ℕ, zero, suc, ◌+◌, ◌-◌, ◌<◌, List, [], ◌∷◌, ◌++◌, Option, Some, None, replicate, refl, ap, sym, ◌∙◌, subst, arith, append_assoc, slice_get, slice_set}
use Rattle.scheduler.proofs.Common.{option_flatten, Step, Standing, JobEnd, Empty, SlotState, SchedulerState, seat_at, with_seat, job_in, after_turn, job_end, seat, ends_by, Mark, Marks, ran_as, nothing, until, never, ends_then, asked_in, exchanged_lines, end_lines, lines_until, TurnOr, UntilIs, MarkedIs, Ahead, Turned, Goes, Ended, told}
use Rattle.sno_run.specs.declared.ending.Step.TheVariants as step
use Rattle.scheduler.proofs.{Rounding.{append_empty, passed, begin, ahead_more}, Shorthand.{turn_as_by}}

not_empty : (st : Step) (slot : SlotState) → told st slot ≡ Empty → ⊥
not_empty step.Goes slot h = let k : Goes ≡ Empty = h in cc (k)
not_empty (step.Ended e) slot h = let k : Ended (job_end slot e) ≡ Empty = h in cc (k)

-- a turn that finds no job changes nothing
empty_by : (m : Option Mark) (s : ℕ) (w w' : SchedulerState) (o : Option SlotState) → turn_as_by m s o w ≡ (Empty, w') → (o ≡ None) × (w' ≡ w)
empty_by m s w w' None h = (refl, sym (ap (λ (p : Turned × SchedulerState). p.1) h))
empty_by m s w w' (Some slot) h =
    let r = ran_as m slot w.sets in
    absurd (not_empty r.0.0 (after_turn slot r) (ap (λ (p : Turned × SchedulerState). p.0) h))

set_none : (slots : List (Option SlotState)) (i : ℕ) → option_flatten (slice_get (slice_set slots i None) i) ≡ None
set_none [] i = refl
set_none (x ∷ slots) zero = refl
set_none (x ∷ slots) (suc i) = set_none slots i

emptied : (s : ℕ) (slots : List (Option SlotState)) → seat_at s (with_seat s None slots) ≡ None
emptied zero slots = refl
emptied (suc i) slots = set_none slots i

unseated : (s : ℕ) (st : Step) (slot : SlotState) (slots : List (Option SlotState)) (e : JobEnd) → told st slot ≡ Ended e
    → seat_at s (with_seat s (seat st slot) slots) ≡ None
unseated s step.Goes slot slots e h = absurd (let k : Goes ≡ Ended e = h in cc (k))
unseated s (step.Ended ending) slot slots e h = emptied s slots

-- and one that ends the job leaves the slot empty
ended_by : (m : Option Mark) (s : ℕ) (w w' : SchedulerState) (o : Option SlotState) (e : JobEnd) → turn_as_by m s o w ≡ (Ended e, w') → job_in s w' ≡ None
ended_by m s w w' None e h = absurd (let k : Empty ≡ Ended e = ap (λ (p : Turned × SchedulerState). p.0) h in cc (k))
ended_by m s w w' (Some slot) e h =
    let r = ran_as m slot w.sets in
    subst (λ (v : SchedulerState). job_in s v ≡ None) (ap (λ (p : Turned × SchedulerState). p.1) h)
    (unseated s r.0.0 (after_turn slot r) w.slots e (ap (λ (p : Turned × SchedulerState). p.0) h))

-- turns of an empty slot take marks that say none
idle : (s n : ℕ) (rest : Marks) (w : SchedulerState) → job_in s w ≡ None → until never (replicate n s) (replicate n None ++ rest) w ≡ nothing rest w
idle s zero rest w h = refl
idle s (suc n) rest w h =
    ap (λ (o : Option SlotState). let t = turn_as_by None s o w in ends_then (ends_by s t.0) (until never (replicate n s) (replicate n None ++ rest) t.1)) h
    ∙ ap (ends_then []) (idle s n rest w h)

-- and put no line
idle_lines : (s n : ℕ) (rest : Marks) (w : SchedulerState) → job_in s w ≡ None → lines_until never (replicate n s) (replicate n None ++ rest) w ≡ []
idle_lines s zero rest w h = refl
idle_lines s (suc n) rest w h =
    ap (λ (o : Option SlotState). let t = turn_as_by None s o w in (exchanged_lines (asked_in None o w.sets) ++ end_lines t.0) ++ lines_until never (replicate n s) (replicate n None ++ rest) t.1) h
    ∙ idle_lines s n rest w h

rest_idle : (E : List ℕ) (w : SchedulerState) (ends : List JobEnd) (s n : ℕ) (now : SchedulerState) (a b : Standing) → job_in s now ≡ None
    → Ahead never E w ends (replicate n s) now a b → UntilIs never E w ends now a b
rest_idle E w ends s n now a b none h = record {
  marks = h.marks ++ replicate n None;
  is = λ rest. passed h.numbered ends now rest (until never E ((h.marks ++ replicate n None) ++ rest) w) h.ended
      (ap (λ (m : Marks). until never E m w) (append_assoc h.marks (replicate n None) rest) ∙ h.is (replicate n None ++ rest)
      ∙ ap (ends_then h.numbered) (idle s n rest now none));
  lines = h.lines;
  tells = λ rest.
      ap (λ (m : Marks). lines_until never E m w) (append_assoc h.marks (replicate n None) rest) ∙ h.tells (replicate n None ++ rest)
      ∙ ap (λ (l : List ℕ). h.lines ++ l) (idle_lines s n rest now none) ∙ append_empty h.lines;
  audited = h.audited;
}

module _ (s count : ℕ) (w : SchedulerState) where
  pub giving_begins : (a : Standing) → Ahead never (replicate count s) w [] (replicate (count - 0) s) w a a
  giving_begins a =
      let e : count ≡ count - 0 = omega arith in
      subst (λ (n : ℕ). Ahead never (replicate count s) w [] (replicate n s) w a a) e (begin never (replicate count s) w a)

  module _ (i : ℕ) (now now' : SchedulerState) (t : Turned) (a b c : Standing) (h : Ahead never (replicate count s) w [] (replicate (count - i) s) now a b) (one : TurnOr s now t now' b c) where
    next : i < count → Ahead never (replicate count s) w [] (s ∷ replicate (count - (i + 1)) s) now a b
    next few =
        let e : count - i ≡ suc (count - (i + 1)) = omega (arith, few) in
        subst (λ (n : ℕ). Ahead never (replicate count s) w [] (replicate n s) now a b) e h

    pub giving_goes : i < count → t ≡ Goes → Ahead never (replicate count s) w [] (replicate (count - (i + 1)) s) now' a c
    giving_goes few goes =
        let turn : TurnOr s now Goes now' b c = subst (λ (u : Turned). TurnOr s now u now' b c) goes one in
        ahead_more never (replicate count s) w [] [] s (replicate (count - (i + 1)) s) now now' Goes a b c refl (next few) turn refl

    pub giving_empty : i < count → t ≡ Empty → MarkedIs (replicate count s) w [] now' a c
    giving_empty few none =
        let turn : TurnOr s now Empty now' b c = subst (λ (u : Turned). TurnOr s now u now' b c) none one in
        let e = empty_by turn.mark s now now' (job_in s now) turn.is in
        rest_idle (replicate count s) w [] s (count - (i + 1)) now' a c (subst (λ (v : SchedulerState). job_in s v ≡ None) (sym e.1) e.0)
        (ahead_more never (replicate count s) w [] [] s (replicate (count - (i + 1)) s) now now' Empty a b c refl (next few) turn refl)

    pub giving_ended : i < count → (e : JobEnd) → t ≡ Ended e → MarkedIs (replicate count s) w (e ∷ []) now' a c
    giving_ended few e ended =
        let turn : TurnOr s now (Ended e) now' b c = subst (λ (u : Turned). TurnOr s now u now' b c) ended one in
        let none = ended_by turn.mark s now now' (job_in s now) e turn.is in
        rest_idle (replicate count s) w (e ∷ []) s (count - (i + 1)) now' a c none
        (ahead_more never (replicate count s) w [] (e ∷ []) s (replicate (count - (i + 1)) s) now now' (Ended e) a b c refl (next few) turn refl)
