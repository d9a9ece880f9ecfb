-- The audit of a text over the data sets whose names pass is that over all.
use Rattle.std.proofs.Common.{◌≡◌, ℕ, zero, suc, ◌+◌, ◌≤◌, Bool, true, not, List, [], ◌∷◌, ◌++◌, length, Option, Some, None, refl, sym, ap, ◌∙◌, is_some, is_none, replicate, arith}
use Rattle.mon_monitor.proofs.Common.{list_all, Account, find_account, account_of, answered, ordered_lines, SlotState, seat_at, first_free, job_loaded, Sets, Marks, never, is_done, has_free_slot, room, rounds, turns_left, lines_of_rounds, SystemState, first_system, with_scheduler, Event, Serve, Load, Give, Drain, happened, history, event_entries, load_entry, loading_lines, event_lines, audit}
use Rattle.mon_monitor.{specs.Audit.{audit_of}, proofs.Auditing.{audit_append, until_told, load_told}}
use Rattle.frame_laws.specs.Naming.{of_names, event_names, event_makes, speak_of, makes}
use Rattle.frame_audit.{specs.Laws.{AuditsAreFramed}, proofs.Requesting.{commands_alike}, proofs.Turning.{until_alike, rounds_alike}}
use Rattle.frame_audit.proofs.Standing.{Stand, of_first, of_second, room_beside, after_event}

module _ (p : List ℕ → Bool) (rest : Sets) where
  event_alike : (n : ℕ) (event : Event) (m : Marks) (w v : SystemState) → ((name : List ℕ) → event_names event name ≡ true → p name ≡ true)
      → n + event_makes event ≤ 1000 → Stand p rest n w v → event_lines event m w ≡ event_lines event m v
  event_alike n (Serve command) m w v covers fits h =
      ap (λ (t : List ℕ). t ++ [])
      (commands_alike p rest n w.scheduler.sets v.scheduler.sets h.scheduler.sets w.accounts command covers fits
      ∙ ap (λ (l : List Account). ordered_lines (find_account l (account_of command)) v.scheduler.sets command (answered l v.scheduler.sets command).answer) h.accounts)
  event_alike n (Give slot count) m w v covers fits h =
      until_told never (replicate count slot) m w.scheduler
      ∙ until_alike p rest n never (λ w v e. refl) (replicate count slot) m w.scheduler v.scheduler h.scheduler
      ∙ sym (until_told never (replicate count slot) m v.scheduler)
  event_alike n Drain m w v covers fits h =
      until_told is_done (rounds (turns_left w.scheduler.slots) (length w.scheduler.slots)) m w.scheduler
      ∙ rounds_alike p rest n is_done (λ w v e. ap (λ (l : List (Option SlotState)). list_all is_none l) e) m w.scheduler v.scheduler h.scheduler
      ∙ sym (until_told is_done (rounds (turns_left v.scheduler.slots) (length v.scheduler.slots)) m v.scheduler)
  event_alike n (Load deck) m w v covers fits h =
      let a = (room m w.scheduler).after in
      let b = (room m v.scheduler).after in
      load_told deck m w
      ∙ ap (λ (t : List ℕ). t ++ loading_lines deck (room m w.scheduler).marks (with_scheduler w a))
      (rounds_alike p rest n has_free_slot (λ w v e. ap (λ (l : List (Option SlotState)). is_some (first_free l)) e) m w.scheduler v.scheduler h.scheduler)
      ∙ ap (λ (l : List Account). lines_of_rounds has_free_slot m v.scheduler ++ audit (load_entry deck (job_loaded l deck a.slots).0)) h.accounts
      ∙ ap (λ (l : List (Option SlotState)). lines_of_rounds has_free_slot m v.scheduler ++ audit (load_entry deck (job_loaded v.accounts deck l).0)) (room_beside p rest n m w v h).after.slots
      ∙ sym (load_told deck m v)

  audits_alike : (n : ℕ) (events : List Event) (m : Marks) (w v : SystemState) → ((name : List ℕ) → speak_of events name ≡ true → p name ≡ true) → n + makes events ≤ 1000
      → Stand p rest n w v → audit_of events m w ≡ audit_of events m v
  audits_alike n [] m w v covers fits h = refl
  audits_alike n (event ∷ events) m w v covers fits h =
      let here = λ (name : List ℕ) (e : event_names event name ≡ true). covers name (of_first (event_names event name) (speak_of events name) e) in
      let fits_here : n + event_makes event ≤ 1000 = omega (arith, fits) in
      let a = happened event m w in
      let b = happened event m v in
      let after = after_event p rest n event m w v here fits_here h in
      audit_append (event_entries event m w) (history events a.marks a.after)
      ∙ ap (λ (t : List ℕ). t ++ audit_of events a.marks a.after) (event_alike n event m w v here fits_here h)
      ∙ ap (λ (t : List ℕ). event_lines event m v ++ t)
      (audits_alike (n + event_makes event) events a.marks a.after b.after (λ name e. covers name (of_second (event_names event name) (speak_of events name) e)) (omega (arith, fits)) after.0
      ∙ ap (λ (k : Marks). audit_of events k b.after) after.1)
      ∙ sym (audit_append (event_entries event m v) (history events b.marks b.after))

no_job : (slots s : ℕ) (slot : SlotState) → seat_at s (replicate slots None) ≡ Some slot → ⊥
no_job slots zero slot h = cc (h)
no_job zero (suc s) slot h = cc (h)
no_job (suc slots) (suc zero) slot h = cc (h)
no_job (suc slots) (suc (suc s)) slot h = no_job slots (suc s) slot h

pub audits_are_framed : AuditsAreFramed
audits_are_framed slots accounts events m sets p covers fits =
    sym (audits_alike p (of_names (λ name. not (p name)) sets) (length sets) events m (first_system slots accounts sets) (first_system slots accounts (of_names p sets)) covers fits
    (record {
      accounts = refl;
      scheduler = record {
        slots = refl;
        sets = record { own = refl; others = refl; few = omega arith };
        tied = λ s slot is. absurd (no_job slots s slot is);
      };
    }))
