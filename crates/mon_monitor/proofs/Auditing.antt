-- The lines of entries are those that are put as turns go.
use Rattle.std.proofs.Common.{◌≡◌, ℕ, Bool, true, false, List, [], ◌∷◌, ◌++◌, length, Option, refl, ap, ◌∙◌, append-nil, map, if◌then◌else◌, drop}
use Rattle.mon_monitor.proofs.Common.{flat_map-append, JobDeck, Empty, SchedulerState, job_in, Mark, Marks, mark_of, turn_as, rounds, turns_left, has_free_slot, room, Exchanged, asked_in, ended_line, exchanged_line, exchanged_lines, end_lines, turn_lines, lines_until, lines_of_rounds, SystemState, with_scheduler, Load, loading, Asked, end_entry, turn_entries, entries_until, entries_of_rounds, load_entry, audit_line, audit, event_lines, loading_lines, Turned, Goes, Entry}
use Rattle.job_end.specs.declared.turned.Turned.TheVariants.{Ended}

pub audit_append : (xs ys : List Entry) → audit (xs ++ ys) ≡ audit xs ++ audit ys
audit_append xs ys = flat_map-append audit_line xs ys

asked_told : (asked : List Exchanged) → audit (map Asked asked) ≡ exchanged_lines asked
asked_told [] = refl
asked_told (e ∷ asked) = ap (λ (t : List ℕ). exchanged_line e ++ t) (asked_told asked)

end_told : (t : Turned) → audit (end_entry t) ≡ end_lines t
end_told Empty = refl
end_told Goes = refl
end_told (Ended e) = append-nil (ended_line e)

turn_told : (m : Option Mark) (s : ℕ) (w : SchedulerState) → audit (turn_entries m s w) ≡ turn_lines m s w
turn_told m s w =
    let asked = asked_in m (job_in s w) w.sets in
    let t = (turn_as m s w).0 in
    audit_append (map Asked asked) (end_entry t)
    ∙ ap (λ (l : List ℕ). l ++ audit (end_entry t)) (asked_told asked)
    ∙ ap (λ (l : List ℕ). exchanged_lines asked ++ l) (end_told t)

-- turns in order
pub until_told : (stop : SchedulerState → Bool) (E : List ℕ) (m : Marks) (w : SchedulerState) → audit (entries_until stop E m w) ≡ lines_until stop E m w
until_told stop [] m w = refl
until_told stop (s ∷ E) m w = by (stop w) (until_told stop E (drop 1 m) (turn_as (mark_of m) s w).1)
  where
    by : (b : Bool) → audit (entries_until stop E (drop 1 m) (turn_as (mark_of m) s w).1) ≡ lines_until stop E (drop 1 m) (turn_as (mark_of m) s w).1
        → audit (if b then [] else turn_entries (mark_of m) s w ++ entries_until stop E (drop 1 m) (turn_as (mark_of m) s w).1)
        ≡ (if b then [] else turn_lines (mark_of m) s w ++ lines_until stop E (drop 1 m) (turn_as (mark_of m) s w).1)
    by true rest = refl
    by false rest =
        let more = entries_until stop E (drop 1 m) (turn_as (mark_of m) s w).1 in
        audit_append (turn_entries (mark_of m) s w) more
        ∙ ap (λ (l : List ℕ). l ++ audit more) (turn_told (mark_of m) s w)
        ∙ ap (λ (l : List ℕ). turn_lines (mark_of m) s w ++ l) rest

-- a job that enters, behind the turns that make room for it
pub load_told : (deck : JobDeck) (m : Marks) (w : SystemState)
    → event_lines (Load deck) m w ≡ lines_of_rounds has_free_slot m w.scheduler ++ loading_lines deck (room m w.scheduler).marks (with_scheduler w (room m w.scheduler).after)
load_told deck m w =
    let made = entries_of_rounds has_free_slot m w.scheduler in
    let entry = load_entry deck (loading deck (with_scheduler w (room m w.scheduler).after)).0 in
    audit_append made entry ∙ ap (λ (l : List ℕ). l ++ audit entry) (until_told has_free_slot (rounds (turns_left w.scheduler.slots) (length w.scheduler.slots)) m w.scheduler)
