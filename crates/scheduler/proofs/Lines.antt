-- The lines of turns until a scheduler is one to stop at, and of rounds of them: they go as the turns do.
use Rattle.std.proofs.Common.{◌≡◌, ℕ, zero, suc, ◌≤◌, Bool, true, false, List, [], ◌∷◌, ◌++◌, length, refl, ap, sym, ◌∙◌, inl, inr, arith, append_assoc, if◌then◌else◌, drop}
use Rattle.scheduler.proofs.Common.{range_with_len, SchedulerState, Marks, mark_of, turn_as, Past, until, rounds, turns_left, is_done, turn_lines, lines_until}
use Rattle.scheduler.proofs.Past.{either_way, until_stops, until_goes, until_length, none_left, round_falls}

module _ (stop : SchedulerState → Bool) where
  pub lines_stop : (E : List ℕ) (m : Marks) (w : SchedulerState) → stop w ≡ true → lines_until stop E m w ≡ []
  lines_stop [] m w h = refl
  lines_stop (s ∷ E) m w h =
      ap (λ (b : Bool). if b then [] else turn_lines (mark_of m) s w ++ lines_until stop E (drop 1 m) (turn_as (mark_of m) s w).1) h

  pub lines_go : (s : ℕ) (E : List ℕ) (m : Marks) (w : SchedulerState) → stop w ≡ false
      → lines_until stop (s ∷ E) m w ≡ turn_lines (mark_of m) s w ++ lines_until stop E (drop 1 m) (turn_as (mark_of m) s w).1
  lines_go s E m w h =
      ap (λ (b : Bool). if b then [] else turn_lines (mark_of m) s w ++ lines_until stop E (drop 1 m) (turn_as (mark_of m) s w).1) h

  -- what follows some lines
  abbrev pub lines_after : List ℕ → List ℕ → Past → List ℕ
  lines_after front F p = front ++ lines_until stop F p.marks p.after

  pub lines_append : (E F : List ℕ) (m : Marks) (w : SchedulerState) → lines_until stop (E ++ F) m w ≡ lines_after (lines_until stop E m w) F (until stop E m w)
  lines_append [] F m w = refl
  lines_append (s ∷ E) F m w = elim (either_way (stop w)) [
    | inl h ↦
        lines_stop (s ∷ E ++ F) m w h
        ∙ sym (ap (λ (l : List ℕ). lines_after l F (until stop (s ∷ E) m w)) (lines_stop (s ∷ E) m w h) ∙ ap (lines_after [] F) (until_stops stop (s ∷ E) m w h) ∙ lines_stop F m w h)
    | inr h ↦
        let t = turn_as (mark_of m) s w in
        let first = turn_lines (mark_of m) s w in
        let p = until stop E (drop 1 m) t.1 in
        lines_go s (E ++ F) m w h
        ∙ ap (λ (l : List ℕ). first ++ l) (lines_append E F (drop 1 m) t.1)
        ∙ sym (append_assoc first (lines_until stop E (drop 1 m) t.1) (lines_until stop F p.marks p.after))
        ∙ sym (ap (λ (l : List ℕ). lines_after l F (until stop (s ∷ E) m w)) (lines_go s E m w h)
        ∙ ap (lines_after (first ++ lines_until stop E (drop 1 m) t.1) F) (until_goes stop s E m w h))
  ]

module _ (stop : SchedulerState → Bool) (size : ℕ) (at_last : (v : SchedulerState) → length v.slots ≡ size → is_done v ≡ true → stop v ≡ true) where
  pub lines_same : (n k : ℕ) (m : Marks) (w : SchedulerState) → length w.slots ≡ size → turns_left w.slots ≤ n → turns_left w.slots ≤ k
      → lines_until stop (rounds n size) m w ≡ lines_until stop (rounds k size) m w
  lines_same zero k m w is h g =
      let now = at_last w is (none_left w.slots h) in
      sym (lines_stop stop (rounds k size) m w now)
  lines_same (suc n) zero m w is h g =
      let now = at_last w is (none_left w.slots g) in
      lines_stop stop (rounds (suc n) size) m w now
  lines_same (suc n) (suc k) m w is h g = elim (either_way (stop w)) [
    | inl e ↦ lines_stop stop (rounds (suc n) size) m w e ∙ sym (lines_stop stop (rounds (suc k) size) m w e)
    | inr e ↦
        let p = until stop (range_with_len 1 size) m w in
        let less = round_falls stop size at_last m w is e in
        lines_append stop (range_with_len 1 size) (rounds n size) m w
        ∙ ap (λ (l : List ℕ). lines_until stop (range_with_len 1 size) m w ++ l)
        (lines_same n k p.marks p.after (until_length stop (range_with_len 1 size) m w ∙ is) (omega (arith, h, less)) (omega (arith, g, less)))
        ∙ sym (lines_append stop (range_with_len 1 size) (rounds k size) m w)
  ]
