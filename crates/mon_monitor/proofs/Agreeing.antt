-- Events of one account's own, in systems that agree for it.
use Rattle.std.proofs.Common.{◌≡◌, ℕ, Bool, List, [], ◌∷◌, ◌++◌, length, Option, refl, ap, sym, ◌∙◌, subst, inl, inr, map, is_some, is_none, drop, replicate}
use Rattle.mon_monitor.proofs.Common.{AllByRecursion, list_all, Account, JobEnd, SlotState, SchedulerState, first_free, ends_by, Marks, mark_of, turn_as, Past, nothing, until, never, marked, rounds, turns_left, rounds_until, is_done, has_free_slot, drain, room, ends_then, either_way, until_stops, until_goes, SystemState, with_scheduler, Event, Serve, Load, Give, Drain, Printout, OfCommand, Played, of_turns, of_loading, then_played, happened, played, SchedulersAgree, Agree, IsOwn, Isolated, Turned}
use Rattle.mon_monitor.proofs.{Parts.{of_load, and_played}, Turning.{scheduler_turn}, Commands.{commands_agree}, Loading.{loads_agree}, Shorthand.{of_ends}}

record PastAlike (account : Account) (p q : Past) : Type 0 where
  pub ends : p.ends ≡ q.ends
  pub marks : p.marks ≡ q.marks
  pub after : SchedulersAgree account p.after q.after

record Alike (account : Account) (p q : Played) : Type 0 where
  pub printouts : p.printouts ≡ q.printouts
  pub marks : p.marks ≡ q.marks
  pub after : Agree account p.after q.after

module _ (account : Account) (stop : SchedulerState → Bool) (same : (w v : SchedulerState) → w.slots ≡ v.slots → stop w ≡ stop v) where
  until_agrees : (E : List ℕ) (m : Marks) (w v : SchedulerState) → SchedulersAgree account w v → PastAlike account (until stop E m w) (until stop E m v)
  until_agrees [] m w v agree = record { ends = refl; marks = refl; after = agree }
  until_agrees (s ∷ E) m w v agree = elim (either_way (stop w)) [
    | inl h ↦
        subst (λ (p : Past). PastAlike account p (until stop (s ∷ E) m v)) (sym (until_stops stop (s ∷ E) m w h))
        (subst (λ (p : Past). PastAlike account (nothing m w) p) (sym (until_stops stop (s ∷ E) m v (sym (same w v agree.slots) ∙ h)))
        (record { ends = refl; marks = refl; after = agree }))
    | inr h ↦
        let t = turn_as (mark_of m) s w in
        let u = turn_as (mark_of m) s v in
        let one = scheduler_turn account w v agree (mark_of m) s in
        let rest = until_agrees E (drop 1 m) t.1 u.1 one.after in
        subst (λ (p : Past). PastAlike account p (until stop (s ∷ E) m v)) (sym (until_goes stop s E m w h))
        (subst (λ (p : Past). PastAlike account (ends_then (ends_by s t.0) (until stop E (drop 1 m) t.1)) p) (sym (until_goes stop s E m v (sym (same w v agree.slots) ∙ h)))
        (record {
          ends = ap (λ (r : Turned). ends_by s r ++ (until stop E (drop 1 m) t.1).ends) one.answer ∙ ap (λ (l : List (ℕ × JobEnd)). ends_by s u.0 ++ l) rest.ends;
          marks = rest.marks;
          after = rest.after;
        }))
  ]

  rounds_agree : (m : Marks) (w v : SchedulerState) → SchedulersAgree account w v → PastAlike account (rounds_until stop m w) (rounds_until stop m v)
  rounds_agree m w v agree =
      subst (λ (l : List (Option SlotState)). PastAlike account (rounds_until stop m w) (until stop (rounds (turns_left l) (length l)) m v)) agree.slots
      (until_agrees (rounds (turns_left w.slots) (length w.slots)) m w v agree)

turns_print : (account : Account) (w v : SystemState) → Agree account w v → (p q : Past) → PastAlike account p q → Alike account (of_turns w p) (of_turns v q)
turns_print account w v agree p q h = record {
  printouts = ap (λ (l : List (ℕ × JobEnd)). of_ends (map (λ e. e.1) l)) h.ends;
  marks = h.marks;
  after = record { accounts = agree.accounts; known = agree.known; scheduler = h.after };
}

-- one event after another
then_alike : (account : Account) (next : Marks → SystemState → Played) (p q : Played) → Alike account p q
    → ((m : Marks) → Alike account (next m p.after) (next m q.after)) → Alike account (then_played p next) (then_played q next)
then_alike account next p q h rest =
    subst (λ (m : Marks). Alike account (then_played p next) (and_played q.printouts (next m q.after))) h.marks
    (record {
      printouts = ap (λ (l : List Printout). l ++ (next p.marks p.after).printouts) h.printouts ∙ ap (λ (l : List Printout). q.printouts ++ l) (rest p.marks).printouts;
      marks = (rest p.marks).marks;
      after = (rest p.marks).after;
    })

event_agrees : (account : Account) (w v : SystemState) → Agree account w v → (event : Event) → IsOwn account event → (m : Marks)
    → Alike account (happened event m w) (happened event m v)
event_agrees account w v agree (Serve command) own m =
    let one = commands_agree account w v agree command own in
    record { printouts = ap (λ (text : List ℕ). OfCommand text ∷ []) one.printout; marks = refl; after = one.after }
event_agrees account w v agree (Give slot count) own m =
    turns_print account w v agree (marked (replicate count slot) m w.scheduler) (marked (replicate count slot) m v.scheduler)
    (until_agrees account never (λ w v e. refl) (replicate count slot) m w.scheduler v.scheduler agree.scheduler)
event_agrees account w v agree Drain own m =
    turns_print account w v agree (drain m w.scheduler) (drain m v.scheduler) (rounds_agree account is_done (λ w v e. ap (list_all is_none) e) m w.scheduler v.scheduler agree.scheduler)
event_agrees account w v agree (Load deck) own m =
    let made = turns_print account w v agree (room m w.scheduler) (room m v.scheduler)
    (rounds_agree account has_free_slot (λ w v e. ap (λ (l : List (Option SlotState)). is_some (first_free l)) e) m w.scheduler v.scheduler agree.scheduler) in
    then_alike account (of_loading deck) (of_turns w (room m w.scheduler)) (of_turns v (room m v.scheduler)) made (λ k.
    let one = loads_agree account (with_scheduler w (room m w.scheduler).after) (with_scheduler v (room m v.scheduler).after) made.after deck own in
    record { printouts = ap (of_load deck) one.answer; marks = refl; after = one.after })

played_agrees : (account : Account) (E : List Event) (w v : SystemState) → Agree account w v → AllByRecursion (IsOwn account) E → (m : Marks)
    → Alike account (played E m w) (played E m v)
played_agrees account [] w v agree own m = record { printouts = refl; marks = refl; after = agree }
played_agrees account (event ∷ E) w v agree own m =
    let one = event_agrees account w v agree event own.0 m in
    then_alike account (played E) (happened event m w) (happened event m v) one
    (λ k. played_agrees account E (happened event m w).after (happened event m v).after one.after own.1 k)

pub isolated : Isolated
isolated account w v agree E own m =
    let h = played_agrees account E w v agree own m in
    record { printouts = h.printouts; marks = h.marks; after = h.after }
