-- Turns in which no job ended for want of memory are those of no marks, and tell the same.
use Rattle.std.proofs.Common.{◌≡◌, ℕ, Bool, true, false, List, [], ◌∷◌, ◌++◌, Option, Some, None, refl, ap, sym, ◌∙◌, subst, inl, inr, ◌⊎◌, if◌then◌else◌, map, take, drop}
use Rattle.mon_device.specs.Putting.{Standing, Puts}
use Rattle.sno_run.specs.declared.ending.Ending.TheVariants.{Memory}
use Rattle.job_end.specs.declared.{job_end.JobEnd.{JobEnd}, turned.Turned.{Turned}, turned.Turned.TheVariants.{Ended}}
use Rattle.scheduler.specs.{States.{SlotState, SchedulerState, job_in}, Turns.{ran, turned, ends_by}, Exchanged.{asked_in, whole_turn}, Turning.{UntilIs}}
use Rattle.scheduler.specs.{Marks.{Mark, Marks, mark_of, exchanges_at, may_break, turn_as, Past, until}, Rounds.{NoneByMemory, MarksEndJobs}}
use Rattle.scheduler.specs.AuditLines.{exchanged_lines, end_lines, turn_lines, lines_until}
use Rattle.scheduler.proofs.{Shorthand.{turn_as_by, broken_by}, Past.{either_way, until_goes}}
use Rattle.ledger_machine.specs.Running.{AreWhole}

-- ---- one turn

abbrev turn_lines_by : Option Mark → ℕ → Option SlotState → SchedulerState → List ℕ
turn_lines_by m s seat w = exchanged_lines (asked_in m seat w.sets) ++ end_lines (turn_as_by m s seat w).0

-- with a mark it is the same, or its job ends for want of memory
abbrev SameOrMemory : Option Mark → ℕ → Option SlotState → SchedulerState → Type 0
SameOrMemory m s seat w =
    ((turn_as_by m s seat w ≡ turn_as_by None s seat w) × (turn_lines_by m s seat w ≡ turn_lines_by None s seat w))
    ⊎ ((e : JobEnd) × ((turn_as_by m s seat w).0 ≡ Ended e) × (e.ending ≡ Memory))

same_or_memory : (m : Option Mark) (s : ℕ) (seat : Option SlotState) (w : SchedulerState) → SameOrMemory m s seat w
same_or_memory m s None w = inl (refl, refl)
same_or_memory None s (Some slot) w = inl (refl, refl)
same_or_memory (Some k) s (Some slot) w = by (may_break slot.job)
  where
    by : (b : Bool) → ((turned s (broken_by b k slot w.sets) slot w ≡ turned s (ran slot w.sets) slot w)
        × (exchanged_lines (if b then take (exchanges_at k slot w.sets) (whole_turn slot w.sets) else whole_turn slot w.sets)
        ++ end_lines (turned s (broken_by b k slot w.sets) slot w).0
        ≡ exchanged_lines (whole_turn slot w.sets) ++ end_lines (turned s (ran slot w.sets) slot w).0))
        ⊎ ((e : JobEnd) × ((turned s (broken_by b k slot w.sets) slot w).0 ≡ Ended e) × (e.ending ≡ Memory))
    by false = inl (refl, refl)
    by true = inr (_, refl, refl)

-- ---- turns one after the other

module _ (stop : SchedulerState → Bool) where
  lines_stop : (E : List ℕ) (m : Marks) (w : SchedulerState) → stop w ≡ true → lines_until stop E m w ≡ []
  lines_stop [] m w h = refl
  lines_stop (s ∷ E) m w h =
      ap (λ (b : Bool). if b then [] else turn_lines (mark_of m) s w ++ lines_until stop E (drop 1 m) (turn_as (mark_of m) s w).1) h

  lines_go : (s : ℕ) (E : List ℕ) (m : Marks) (w : SchedulerState) → stop w ≡ false
      → lines_until stop (s ∷ E) m w ≡ turn_lines (mark_of m) s w ++ lines_until stop E (drop 1 m) (turn_as (mark_of m) s w).1
  lines_go s E m w h =
      ap (λ (b : Bool). if b then [] else turn_lines (mark_of m) s w ++ lines_until stop E (drop 1 m) (turn_as (mark_of m) s w).1) h

parted : (xs ys : List (ℕ × JobEnd)) → NoneByMemory (xs ++ ys) → NoneByMemory xs × NoneByMemory ys
parted [] ys h = (tt, h)
parted (x ∷ xs) ys h = let rest = parted xs ys h.1 in ((h.0, rest.0), rest.1)

lines_plain : (stop : SchedulerState → Bool) (E : List ℕ) (m : Marks) (w : SchedulerState) → NoneByMemory (until stop E m w).ends
    → lines_until stop E m w ≡ lines_until stop E [] w
lines_plain stop [] m w none = refl
lines_plain stop (s ∷ E) m w none = elim (either_way (stop w)) [
  | inl h ↦ lines_stop stop (s ∷ E) m w h ∙ sym (lines_stop stop (s ∷ E) [] w h)
  | inr h ↦
      let t = turn_as (mark_of m) s w in
      let parts = parted (ends_by s t.0) (until stop E (drop 1 m) t.1).ends (subst (λ (p : Past). NoneByMemory p.ends) (until_goes stop s E m w h) none) in
      elim (same_or_memory (mark_of m) s (job_in s w) w) [
        | inl k ↦
            let one : t ≡ turn_as None s w = k.0 in
            let told : turn_lines (mark_of m) s w ≡ turn_lines None s w = k.1 in
            lines_go stop s E m w h
            ∙ ap (λ (l : List ℕ). l ++ lines_until stop E (drop 1 m) t.1) told
            ∙ ap (λ (l : List ℕ). turn_lines None s w ++ l) (lines_plain stop E (drop 1 m) t.1 parts.1)
            ∙ ap (λ (u : Turned × SchedulerState). turn_lines None s w ++ lines_until stop E [] u.1) one
            ∙ sym (lines_go stop s E [] w h)
        | inr b ↦ absurd ((subst (λ (u : Turned). NoneByMemory (ends_by s u)) b.1 parts.0).0 b.2)
      ]
]

-- ---- what a call promises

none_by : (ends : List (ℕ × JobEnd)) → AreWhole (map (λ e. e.1) ends) → NoneByMemory ends
none_by [] h = tt
none_by (e ∷ ends) h = (h.0, none_by ends h.1)

-- the turns of no marks
pub record Plainly (stop : SchedulerState → Bool) (E : List ℕ) (w : SchedulerState) (ends : List JobEnd) (w' : SchedulerState) (a b : Standing) : Type 0 where
  pub ended : map (λ e. e.1) (until stop E [] w).ends ≡ ends
  pub after : (until stop E [] w).after ≡ w'
  pub audited : Puts a b (lines_until stop E [] w)

pub plainly : MarksEndJobs → (stop : SchedulerState → Bool) (E : List ℕ) (w : SchedulerState) (ends : List JobEnd) (w' : SchedulerState) (a b : Standing)
    → UntilIs stop E w ends w' a b → AreWhole ends → Plainly stop E w ends w' a b
plainly law stop E w ends w' a b is whole =
    let m = is.marks ++ [] in
    let p = is.is [] in
    let none = none_by (until stop E m w).ends (subst AreWhole (sym p.ended) whole) in
    let same = law stop w E m none in
    record {
      ended = ap (λ (l : List (ℕ × JobEnd)). map (λ e. e.1) l) (sym same.0) ∙ p.ended;
      after = sym same.1 ∙ p.after;
      audited = subst (λ (l : List ℕ). Puts a b l) (sym (is.tells []) ∙ lines_plain stop E m w none) is.audited;
    }
