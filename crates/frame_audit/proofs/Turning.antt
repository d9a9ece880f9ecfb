-- The lines of turns over all data sets, and over those alone whose names pass.
use Rattle.std.proofs.Common.{◌≡◌, ℕ, Bool, true, false, List, [], ◌∷◌, ◌++◌, length, Option, Some, None, refl, sym, ap, ◌∙◌, map, take, drop, flat_map, append-nil}
use Rattle.std.specs.Prelude.{if◌then◌else◌, suc}
use Rattle.mon_monitor.proofs.Common.{Sets, requests_in, Passed, counted_turn, turn_of, serve, passed_alike, SlotState, SchedulerState, seat_at, job_in, reached, Mark, Marks, mark_of, exchanges_at, may_break, turn_as, until, never, rounds, turns_left, ends_by, JobEnd, Turned, Empty, Goes, ended_line, asked_in, whole_turn, exchanged_line, exchanged_lines, end_lines, turn_lines, lines_until, lines_of_rounds}
use Rattle.job_end.specs.declared.turned.Turned.TheVariants.{Ended}
use Rattle.frame_laws.proofs.{Serving.{Beside, Passes, ReachesStand, each}, Turning.{SchedulersStand, PastBeside, until_beside}}
use Rattle.frame_audit.proofs.Requesting.{all_told, first_told, requests_alike}

-- the line of a job's end, by the ends of its turn
end_told : (s : ℕ) (t : Turned) → end_lines t ≡ flat_map (λ e. ended_line e.1) (ends_by s t ++ [])
end_told s Empty = refl
end_told s Goes = refl
end_told s (Ended e) = sym (append-nil (ended_line e))

module _ (p : List ℕ → Bool) (rest : Sets) (n : ℕ) where
  module _ (slot : SlotState) (sets alone : Sets) (tied : Passes p slot.units) (h : Beside p rest n sets alone) where
    begin : ReachesStand p rest n (reached sets slot) (reached alone slot)
    begin = record { units = refl; sets = h; tied = tied }

    whole_alike : map exchanged_line (whole_turn slot sets) ≡ map exchanged_line (whole_turn slot alone)
    whole_alike = requests_alike p rest n slot.account slot.number (turn_of slot.job) (reached sets slot) (reached alone slot) begin

    same_count : (m : Mark) → exchanges_at m slot sets ≡ exchanges_at m slot alone
    same_count m =
        ap (λ (x : List Passed). length (requests_in x))
        (passed_alike (serve slot.account) (serve slot.account) (ReachesStand p rest n) (each p rest n slot.account) (suc m.moments) (counted_turn slot.job) (reached sets slot) (reached alone slot) begin)

    abbrev cut_lines : Bool → Mark → Sets → List ℕ
    cut_lines b m l = exchanged_lines (if b then take (exchanges_at m slot l) (whole_turn slot l) else whole_turn slot l)

    cut_alike : (b : Bool) (m : Mark) → cut_lines b m sets ≡ cut_lines b m alone
    cut_alike true m =
        first_told exchanged_line (exchanges_at m slot sets) (whole_turn slot sets) (whole_turn slot alone) whole_alike
        ∙ ap (λ (k : ℕ). exchanged_lines (take k (whole_turn slot alone))) (same_count m)
    cut_alike false m = all_told exchanged_line (whole_turn slot sets) (whole_turn slot alone) whole_alike

  asked_alike : (m : Option Mark) (o : Option SlotState) (sets alone : Sets) → ((slot : SlotState) → o ≡ Some slot → Passes p slot.units) → Beside p rest n sets alone
      → exchanged_lines (asked_in m o sets) ≡ exchanged_lines (asked_in m o alone)
  asked_alike None None sets alone tied h = refl
  asked_alike (Some m) None sets alone tied h = refl
  asked_alike None (Some slot) sets alone tied h = cut_alike slot sets alone (tied slot refl) h false (record { moments = 0 })
  asked_alike (Some m) (Some slot) sets alone tied h = cut_alike slot sets alone (tied slot refl) h (may_break slot.job) m

  -- one turn, as turns of one slot
  one_turn : (s : ℕ) (m : Marks) (w v : SchedulerState) → SchedulersStand p rest n w v → PastBeside p rest n (until never (s ∷ []) m w) (until never (s ∷ []) m v)
  one_turn s m w v h = until_beside p rest n never (λ w v e. refl) (s ∷ []) m w v h

  turn_alike : (s : ℕ) (m : Marks) (w v : SchedulerState) → SchedulersStand p rest n w v → turn_lines (mark_of m) s w ≡ turn_lines (mark_of m) s v
  turn_alike s m w v h =
      ap (λ (t : List ℕ). t ++ end_lines (turn_as (mark_of m) s w).0)
      (asked_alike (mark_of m) (job_in s w) w.sets v.sets (λ slot e. h.tied s slot e) h.sets
      ∙ ap (λ (o : Option SlotState). exchanged_lines (asked_in (mark_of m) o v.sets)) (ap (seat_at s) h.slots))
      ∙ ap (λ (t : List ℕ). exchanged_lines (asked_in (mark_of m) (job_in s v) v.sets) ++ t)
      (end_told s (turn_as (mark_of m) s w).0
      ∙ ap (λ (l : List (ℕ × JobEnd)). flat_map (λ e. ended_line e.1) l) (one_turn s m w v h).ends
      ∙ sym (end_told s (turn_as (mark_of m) s v).0))

  module _ (stop : SchedulerState → Bool) (same : (w v : SchedulerState) → w.slots ≡ v.slots → stop w ≡ stop v) where
    pub until_alike : (E : List ℕ) (m : Marks) (w v : SchedulerState) → SchedulersStand p rest n w v → lines_until stop E m w ≡ lines_until stop E m v
    until_alike [] m w v h = refl
    until_alike (s ∷ E) m w v h =
        let t = (turn_as (mark_of m) s w).1 in
        let u = (turn_as (mark_of m) s v).1 in
        let after : SchedulersStand p rest n t u = (one_turn s m w v h).after in
        ap (λ (l : List ℕ). if stop w then [] else l ++ lines_until stop E (drop 1 m) t) (turn_alike s m w v h)
        ∙ ap (λ (l : List ℕ). if stop w then [] else turn_lines (mark_of m) s v ++ l) (until_alike E (drop 1 m) t u after)
        ∙ ap (λ (b : Bool). if b then [] else turn_lines (mark_of m) s v ++ lines_until stop E (drop 1 m) u) (same w v h.slots)

    pub rounds_alike : (m : Marks) (w v : SchedulerState) → SchedulersStand p rest n w v → lines_of_rounds stop m w ≡ lines_of_rounds stop m v
    rounds_alike m w v h =
        until_alike (rounds (turns_left w.slots) (length w.slots)) m w v h
        ∙ ap (λ (l : List (Option SlotState)). lines_until stop (rounds (turns_left l) (length l)) m v) h.slots
