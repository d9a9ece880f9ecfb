-- Events of jobs that have other numbers.
use Rattle.std.proofs.Common.{◌≡◌, ℕ, List, [], ◌∷◌, ◌++◌, Option, Some, None, Result, Ok, Err, refl, sym, ap, ap₂, ◌∙◌, map, replicate, is_some}
use Rattle.std.proofs.lemmas.List.{map-append}
use Rattle.mon_monitor.proofs.Common.{Account, find_account, Program, statements_of, JobDeck, LoadError, JobEnd, SlotState, SchedulerState, first_free, load_refusal, job_refusal, loaded_by, job_loaded, slot_in, slot_by, program_in, missing, NoSlot, option_or, Marks, Past, until, never, rounds_until, is_done, has_free_slot, room, SystemState, Event, Serve, Load, Give, Drain, Printout, OfJob, Played, of_turns, of_loading, then_played, happened, played, Entry, load_entry, event_entries, history, entries_of_rounds}
use Rattle.mon_monitor.proofs.Parts.{of_load, and_played}
use Rattle.job_numbers.specs.Numbers.{deck_as, event_as, end_as, printout_as, entry_as}
use Rattle.job_numbers.proofs.Seating.{seat_as, seats_as, scheduler_as, system_as, with_seat_as, first_free_as, none_as}
use Rattle.job_numbers.proofs.Turning.{at_end, past_as, until_as, rounds_as, entries_as, rounds_told}

abbrev pub played_as : (ℕ → ℕ) → Played → Played
played_as f p = record { printouts = map (printout_as f) p.printouts; after = system_as f p.after; marks = p.marks }

module _ (f : ℕ → ℕ) where
  -- TURNS

  printed_as : (ends : List (ℕ × JobEnd)) → map OfJob (map (λ e. e.1) (map (at_end f) ends)) ≡ map (printout_as f) (map OfJob (map (λ e. e.1) ends))
  printed_as [] = refl
  printed_as (e ∷ ends) = ap (λ (l : List Printout). OfJob (end_as f e.1) ∷ l) (printed_as ends)

  turns_as : (w : SystemState) (p q : Past) → q ≡ past_as f p → of_turns (system_as f w) q ≡ played_as f (of_turns w p)
  turns_as w p q is =
      ap (of_turns (system_as f w)) is
      ∙ ap (λ (l : List Printout). let r : Played = record { printouts = l; after = record { accounts = w.accounts; scheduler = scheduler_as f p.after }; marks = p.marks } in r) (printed_as p.ends)

  done_as : (w : SchedulerState) → is_done (scheduler_as f w) ≡ is_done w
  done_as w = none_as f w.slots

  has_free_as : (w : SchedulerState) → has_free_slot (scheduler_as f w) ≡ has_free_slot w
  has_free_as w = ap (λ (o : Option ℕ). is_some o) (first_free_as f w.slots)

  -- LOADS

  slot_by_as : (deck : JobDeck) (found : Option Account) (p : Option Program) → slot_by (deck_as f deck) found p ≡ seat_as f (slot_by deck found p)
  slot_by_as deck None p = refl
  slot_by_as deck (Some account) None = refl
  slot_by_as deck (Some account) (Some p) = refl

  abbrev loaded_as : Result ℕ LoadError × List (Option SlotState) → Result ℕ LoadError × List (Option SlotState)
  loaded_as r = (r.0, seats_as f r.1)

  by_as : (refusal : Option LoadError) (n : Option ℕ) (seat : Option SlotState) (slots : List (Option SlotState))
      → loaded_by refusal n (seat_as f seat) (seats_as f slots) ≡ loaded_as (loaded_by refusal n seat slots)
  by_as (Some refusal) n seat slots = refl
  by_as None None seat slots = refl
  by_as None (Some n) seat slots =
      ap (λ (l : List (Option SlotState)). let r : Result ℕ LoadError × List (Option SlotState) = (Ok n, l) in r) (with_seat_as f n seat slots)

  job_as : (accounts : List Account) (deck : JobDeck) (slots : List (Option SlotState)) → job_loaded accounts (deck_as f deck) (seats_as f slots) ≡ loaded_as (job_loaded accounts deck slots)
  job_as accounts deck slots =
      ap (λ (o : Option ℕ). loaded_by (option_or (missing NoSlot o) (job_refusal accounts deck)) o (slot_in accounts (deck_as f deck)) (seats_as f slots)) (first_free_as f slots)
      ∙ ap (λ (seat : Option SlotState). loaded_by (load_refusal accounts deck slots) (first_free slots) seat (seats_as f slots))
      (slot_by_as deck (find_account accounts deck.account) (program_in (statements_of deck.lines)))
      ∙ by_as (load_refusal accounts deck slots) (first_free slots) (slot_in accounts deck) slots

  load_as : (deck : JobDeck) (r : Result ℕ LoadError) → of_load (deck_as f deck) r ≡ map (printout_as f) (of_load deck r)
  load_as deck (Ok slot) = refl
  load_as deck (Err refusal) = refl

  entry_of_load : (deck : JobDeck) (r : Result ℕ LoadError) → load_entry (deck_as f deck) r ≡ map (entry_as f) (load_entry deck r)
  entry_of_load deck (Ok slot) = refl
  entry_of_load deck (Err refusal) = refl

  abbrev of_loaded : JobDeck → Marks → SystemState → Result ℕ LoadError × List (Option SlotState) → Played
  of_loaded deck m w r = record {
    printouts = of_load deck r.0;
    after = record { accounts = w.accounts; scheduler = record { sets = w.scheduler.sets; slots = r.1 } };
    marks = m;
  }

  loading_as : (deck : JobDeck) (m : Marks) (w : SystemState) → of_loading (deck_as f deck) m (system_as f w) ≡ played_as f (of_loading deck m w)
  loading_as deck m w =
      let r = job_loaded w.accounts deck w.scheduler.slots in
      ap (λ (x : Result ℕ LoadError × List (Option SlotState)). of_loaded (deck_as f deck) m (system_as f w) x) (job_as w.accounts deck w.scheduler.slots)
      ∙ ap (λ (l : List Printout). let q : Played = record {
        printouts = l;
        after = record { accounts = w.accounts; scheduler = record { sets = w.scheduler.sets; slots = seats_as f r.1 } };
        marks = m;
      } in q) (load_as deck r.0)

  -- EVENTS

  -- one and then another
  then_as : (x : Played) (next other : Marks → SystemState → Played) → ((m : Marks) (w : SystemState) → other m (system_as f w) ≡ played_as f (next m w))
      → then_played (played_as f x) other ≡ played_as f (then_played x next)
  then_as x next other same =
      let later = next x.marks x.after in
      ap (and_played (map (printout_as f) x.printouts)) (same x.marks x.after)
      ∙ ap (λ (l : List Printout). let q : Played = record { printouts = l; after = system_as f later.after; marks = later.marks } in q)
      (sym (map-append (printout_as f) x.printouts later.printouts))

  pub happened_as : (event : Event) (m : Marks) (w : SystemState) → happened (event_as f event) m (system_as f w) ≡ played_as f (happened event m w)
  happened_as (Serve command) m w = refl
  happened_as (Give slot count) m w =
      turns_as w (until never (replicate count slot) m w.scheduler) (until never (replicate count slot) m (scheduler_as f w.scheduler)) (until_as f never (λ w. refl) (replicate count slot) m w.scheduler)
  happened_as Drain m w =
      turns_as w (rounds_until is_done m w.scheduler) (rounds_until is_done m (scheduler_as f w.scheduler)) (rounds_as f is_done done_as m w.scheduler)
  happened_as (Load deck) m w =
      ap (λ (p : Played). then_played p (of_loading (deck_as f deck)))
      (turns_as w (room m w.scheduler) (room m (scheduler_as f w.scheduler)) (rounds_as f has_free_slot has_free_as m w.scheduler))
      ∙ then_as (of_turns w (room m w.scheduler)) (of_loading deck) (of_loading (deck_as f deck)) (loading_as deck)

  pub all_as : (events : List Event) (m : Marks) (w : SystemState) → played (map (event_as f) events) m (system_as f w) ≡ played_as f (played events m w)
  all_as [] m w = refl
  all_as (event ∷ events) m w =
      ap (λ (p : Played). then_played p (played (map (event_as f) events))) (happened_as event m w)
      ∙ then_as (happened event m w) (played events) (played (map (event_as f) events)) (all_as events)

  event_told : (event : Event) (m : Marks) (w : SystemState) → event_entries (event_as f event) m (system_as f w) ≡ map (entry_as f) (event_entries event m w)
  event_told (Serve command) m w = refl
  event_told (Give slot count) m w = entries_as f never (λ w. refl) (replicate count slot) m w.scheduler
  event_told Drain m w = rounds_told f is_done done_as m w.scheduler
  event_told (Load deck) m w =
      let made = (room m w.scheduler).after in
      ap₂ (λ (l k : List Entry). l ++ k)
      (rounds_told f has_free_slot has_free_as m w.scheduler)
      (ap (λ (p : Past). load_entry (deck_as f deck) (job_loaded w.accounts (deck_as f deck) p.after.slots).0) (rounds_as f has_free_slot has_free_as m w.scheduler)
      ∙ ap (λ (r : Result ℕ LoadError × List (Option SlotState)). load_entry (deck_as f deck) r.0) (job_as w.accounts deck made.slots)
      ∙ entry_of_load deck (job_loaded w.accounts deck made.slots).0)
      ∙ sym (map-append (entry_as f) (entries_of_rounds has_free_slot m w.scheduler) (load_entry deck (job_loaded w.accounts deck made.slots).0))

  pub history_as : (events : List Event) (m : Marks) (w : SystemState) → history (map (event_as f) events) m (system_as f w) ≡ map (entry_as f) (history events m w)
  history_as [] m w = refl
  history_as (event ∷ events) m w =
      let here = happened event m w in
      ap₂ (λ (l k : List Entry). l ++ k) (event_told event m w)
      (ap (λ (p : Played). history (map (event_as f) events) p.marks p.after) (happened_as event m w) ∙ history_as events here.marks here.after)
      ∙ sym (map-append (entry_as f) (event_entries event m w) (history events here.marks here.after))
