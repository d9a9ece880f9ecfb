-- What the calls do is what happens where memory is never short.
use Rattle.std.proofs.Common.{◌≡◌, ℕ, List, [], ◌∷◌, ◌++◌, length, refl, ap, sym, ◌∙◌, subst, append_assoc, append-nil, map, replicate}
use Rattle.std.specs.List.{flat_map}
use Rattle.mon_device.{specs.Putting.{Standing, Puts}, proofs.Putting.{puts_nothing, puts_then}}
use Rattle.mon_access.specs.declared.account.Account.{Account}
use Rattle.deck_syntax.specs.declared.job_deck.JobDeck.{JobDeck}
use Rattle.job_end.specs.{declared.job_end.JobEnd.{JobEnd}, Printouts.{printout}}
use Rattle.scheduler.specs.{States.{SchedulerState}, Marks.{Marks, never, rounds, turns_left, is_done, has_free_slot, room}, AuditLines.{lines_of_rounds}}
use Rattle.mon_monitor.specs.{SystemStates.{SystemState, with_scheduler}, Events.{Event, Load, Give, Drain}, Printouts.{Printout, printouts_text}}
use Rattle.mon_monitor.specs.{Played.{Played, of_loading, happened, played}, History.{Entry, event_entries, history}, Abstraction.{system}}
use Rattle.mon_monitor.specs.{Audit.{audit, event_lines, loading_lines, audit_of}, Happening.{Does, HappensUnmarked}}
use Rattle.mon_monitor.proofs.{Shorthand.{of_ends}, Playing.{printouts_append, ends_text}, Auditing.{audit_append, until_told, load_told}}
use Rattle.ledger_machine.{specs.Running.{HappensTo, PlaysTo}, proofs.Unmarked.{happened_none}, proofs.Plain.{Plainly}}

-- ---- events

-- one that took no mark
pub took_none : (e : Event) (w w' : SystemState) (before after : List ℕ) (a b : Standing) → HappensUnmarked e w before w' after a b → HappensTo e w before w' after a b
took_none e w w' before after a b (h, none) =
    let is : happened e [] w ≡ record { printouts = h.printouts; after = w'; marks = [] } =
    subst (λ (m : Marks). happened e (m ++ []) w ≡ (let p : Played = record { printouts = h.printouts; after = w'; marks = [] } in p)) none (h.is []) in
    let told : event_lines e [] w ≡ h.lines = subst (λ (m : Marks). event_lines e (m ++ []) w ≡ h.lines) none (h.tells []) in
    record {
      printed = h.printed ∙ ap (λ (p : Played). before ++ printouts_text p.printouts) (sym is);
      left = ap (λ (p : Played). p.after) is;
      audited = subst (λ (l : List ℕ). Puts a b l) (sym told) h.audited;
    }

module _ (w w' : SystemState) (before after : List ℕ) (ends : List JobEnd) (a b : Standing) (accounts : w'.accounts ≡ w.accounts) (put : after ≡ before ++ flat_map printout ends) where
  -- the system that turns leave
  system_left : (p : SystemState) → p.accounts ≡ w.accounts → p.scheduler ≡ w'.scheduler → p ≡ w'
  system_left p known same = ap (λ (l : List Account). system l p.scheduler) (known ∙ sym accounts) ∙ ap (λ (s : SchedulerState). system w'.accounts s) same

  printed_so : (they : List JobEnd) → they ≡ ends → after ≡ before ++ printouts_text (of_ends they)
  printed_so they same = put ∙ ap (λ (t : List ℕ). before ++ t) (sym (ends_text ends)) ∙ ap (λ (l : List JobEnd). before ++ printouts_text (of_ends l)) (sym same)

  pub drained : Plainly is_done (rounds (turns_left w.scheduler.slots) (length w.scheduler.slots)) w.scheduler ends w'.scheduler a b → HappensTo Drain w before w' after a b
  drained is = record {
    printed = printed_so _ is.ended;
    left = system_left (happened Drain [] w).after refl is.after;
    audited = subst (λ (l : List ℕ). Puts a b l) (sym (until_told is_done (rounds (turns_left w.scheduler.slots) (length w.scheduler.slots)) [] w.scheduler)) is.audited;
  }

  pub given : (s n : ℕ) → Plainly never (replicate n s) w.scheduler ends w'.scheduler a b → HappensTo (Give s n) w before w' after a b
  given s n is = record {
    printed = printed_so _ is.ended;
    left = system_left (happened (Give s n) [] w).after refl is.after;
    audited = subst (λ (l : List ℕ). Puts a b l) (sym (until_told never (replicate n s) [] w.scheduler)) is.audited;
  }

  -- and then a job is loaded, or refused
  pub entered : (deck : JobDeck) (last : SystemState) (end : List ℕ) (c : Standing)
      → Plainly has_free_slot (rounds (turns_left w.scheduler.slots) (length w.scheduler.slots)) w.scheduler ends w'.scheduler a b
      → Does (of_loading deck) (loading_lines deck) w' after last end b c → HappensTo (Load deck) w before last end a c
  entered deck last end c is load =
      let made = with_scheduler w (room [] w.scheduler).after in
      let there : made ≡ w' = system_left made refl is.after in
      let loaded : (of_loading deck [] w').printouts ≡ load.printouts = ap (λ (p : Played). p.printouts) (load.is []) in
      let first = printouts_text (of_ends (map (λ e. e.1) (room [] w.scheduler).ends)) in
      record {
        printed =
            load.printed
            ∙ ap (λ (t : List ℕ). t ++ printouts_text load.printouts) (printed_so _ is.ended)
            ∙ append_assoc before first (printouts_text load.printouts)
            ∙ ap (λ (l : List Printout). before ++ (first ++ printouts_text l)) (sym loaded)
            ∙ ap (λ (v : SystemState). before ++ (first ++ printouts_text (of_loading deck [] v).printouts)) (sym there)
            ∙ ap (λ (t : List ℕ). before ++ t) (sym (printouts_append (of_ends (map (λ e. e.1) (room [] w.scheduler).ends)) (of_loading deck [] made).printouts));
        left = ap (λ (v : SystemState). (of_loading deck [] v).after) there ∙ ap (λ (p : Played). p.after) (load.is []);
        audited =
            subst (λ (l : List ℕ). Puts a c l)
            (ap (λ (l : List ℕ). lines_of_rounds has_free_slot [] w.scheduler ++ l) (sym (load.tells []))
            ∙ ap (λ (v : SystemState). lines_of_rounds has_free_slot [] w.scheduler ++ loading_lines deck [] v) (sym there)
            ∙ sym (load_told deck [] w))
            (puts_then a b c (lines_of_rounds has_free_slot [] w.scheduler) load.lines is.audited load.audited);
      }

-- ---- events one after the other

pub plays_more : (e : Event) (E : List Event) (w now last : SystemState) (before between after : List ℕ) (a b c : Standing)
    → HappensTo e w before now between a b → PlaysTo E now between last after b c → PlaysTo (e ∷ E) w before last after a c
plays_more e E w now last before between after a b c h rest =
    let p = happened e [] w in
    let same : played E p.marks p.after ≡ played E [] now =
    ap (λ (m : Marks). played E m p.after) (happened_none e w) ∙ ap (λ (v : SystemState). played E [] v) h.left in
    let told : history E p.marks p.after ≡ history E [] now =
    ap (λ (m : Marks). history E m p.after) (happened_none e w) ∙ ap (λ (v : SystemState). history E [] v) h.left in
    record {
      printed =
          rest.printed
          ∙ ap (λ (t : List ℕ). t ++ printouts_text (played E [] now).printouts) h.printed
          ∙ append_assoc before (printouts_text p.printouts) (printouts_text (played E [] now).printouts)
          ∙ ap (λ (t : List ℕ). before ++ t) (sym (printouts_append p.printouts (played E [] now).printouts))
          ∙ ap (λ (q : Played). before ++ printouts_text (p.printouts ++ q.printouts)) (sym same);
      left = ap (λ (q : Played). q.after) same ∙ rest.left;
      audited =
          subst (λ (l : List ℕ). Puts a c l)
          (ap (λ (l : List Entry). event_lines e [] w ++ audit l) (sym told) ∙ sym (audit_append (event_entries e [] w) (history E p.marks p.after)))
          (puts_then a b c (event_lines e [] w) (audit_of E [] now) h.audited rest.audited);
    }

pub plays_nothing : (w : SystemState) (before : List ℕ) (a : Standing) → PlaysTo [] w before w before a a
plays_nothing w before a = record { printed = sym (append-nil before); left = refl; audited = puts_nothing a }
