-- What stands behind the marks that events take does not matter to them, nor to their audit.
use Rattle.std.proofs.Common.{◌≡◌, ℕ, Bool, true, false, List, [], ◌∷◌, ◌++◌, length, drop, refl, sym, ap, ◌∙◌, replicate, append_assoc}
use Rattle.std.specs.Prelude.{if◌then◌else◌, Option}
use Rattle.mon_catalogue.specs.declared.data_set.DataSet.{DataSet}
use Rattle.mon_monitor.proofs.Common.{Mark, Marks, mark_of, Past, nothing, turn_as, until, never, rounds, turns_left, rounds_until, is_done, has_free_slot, room, ends_by, turn_lines, lines_until, lines_of_rounds, SchedulerState, SystemState, first_system, with_scheduler, Event, Serve, Load, Give, Drain, Played, of_turns, of_loading, then_played, happened, played, history, event_entries, loading_lines, event_lines}
use Rattle.mon_monitor.{specs.Audit.{audit_of}, proofs.Auditing.{audit_append, until_told, load_told}}
use Rattle.mon_access.specs.declared.account.Account.{Account}
use Rattle.parts_laws.specs.Threads.{Taken, TakesFirst}
use Rattle.frame_audit.specs.Texts.{Telling, audited_texts}

-- some first marks do, and this is told; what stands behind them is left
abbrev First : {A : Type 0} → (Marks → A) → (Marks → A) → (Marks → List ℕ) → List ℕ → Type 0
First does leaves tells lines = (used : Marks) × ((rest : Marks) → (does (used ++ rest) ≡ leaves rest) × (tells (used ++ rest) ≡ lines))

abbrev goes_on : (SchedulerState → Bool) → ℕ → List ℕ → SchedulerState → Marks → Past
goes_on stop s E w k = let later = until stop E (drop 1 k) (turn_as (mark_of k) s w).1 in record later { ends = ends_by s (turn_as (mark_of k) s w).0 ++ later.ends }

abbrev tells_on : (SchedulerState → Bool) → ℕ → List ℕ → SchedulerState → Marks → List ℕ
tells_on stop s E w k = turn_lines (mark_of k) s w ++ lines_until stop E (drop 1 k) (turn_as (mark_of k) s w).1

until_first : (stop : SchedulerState → Bool) (E : List ℕ) (m : Marks) (w : SchedulerState)
    → First (λ k. until stop E k w) (λ k. record (until stop E m w) { marks = k }) (λ k. lines_until stop E k w) (lines_until stop E m w)
until_first stop [] m w = ([], λ rest. (refl, refl))
until_first stop (s ∷ E) m w = by (stop w) (until_first stop E (drop 1 m) (turn_as (mark_of m) s w).1)
  where
    by : (b : Bool)
        → First (λ k. until stop E k (turn_as (mark_of m) s w).1) (λ k. record (until stop E (drop 1 m) (turn_as (mark_of m) s w).1) { marks = k })
        (λ k. lines_until stop E k (turn_as (mark_of m) s w).1) (lines_until stop E (drop 1 m) (turn_as (mark_of m) s w).1)
        → First (λ k. if b then nothing k w else goes_on stop s E w k) (λ k. record (if b then nothing m w else goes_on stop s E w m) { marks = k })
        (λ k. if b then [] else tells_on stop s E w k) (if b then [] else tells_on stop s E w m)
    by true later = ([], λ rest. (refl, refl))
    by false later = (
      mark_of m ∷ later.0,
      λ rest. (
        ap (λ (p : Past). let q : Past = record p { ends = ends_by s (turn_as (mark_of m) s w).0 ++ p.ends } in q) (later.1 rest).0,
        ap (λ (t : List ℕ). turn_lines (mark_of m) s w ++ t) (later.1 rest).1,
      ),
    )

rounds_first : (stop : SchedulerState → Bool) (m : Marks) (w : SchedulerState)
    → First (λ k. rounds_until stop k w) (λ k. record (rounds_until stop m w) { marks = k }) (λ k. lines_of_rounds stop k w) (lines_of_rounds stop m w)
rounds_first stop m w = until_first stop (rounds (turns_left w.slots) (length w.slots)) m w

happened_first : (event : Event) (m : Marks) (w : SystemState)
    → First (λ k. happened event k w) (λ k. record (happened event m w) { marks = k }) (λ k. event_lines event k w) (event_lines event m w)
happened_first (Serve command) m w = ([], λ rest. (refl, refl))
happened_first (Give slot count) m w =
    let turns = until_first never (replicate count slot) m w.scheduler in (
      turns.0,
      λ rest. (
        ap (of_turns w) (turns.1 rest).0,
        until_told never (replicate count slot) (turns.0 ++ rest) w.scheduler ∙ (turns.1 rest).1 ∙ sym (until_told never (replicate count slot) m w.scheduler),
      ),
    )
happened_first Drain m w =
    let turns = rounds_first is_done m w.scheduler in
    let E = rounds (turns_left w.scheduler.slots) (length w.scheduler.slots) in (
      turns.0,
      λ rest. (
        ap (of_turns w) (turns.1 rest).0,
        until_told is_done E (turns.0 ++ rest) w.scheduler ∙ (turns.1 rest).1 ∙ sym (until_told is_done E m w.scheduler),
      ),
    )
happened_first (Load deck) m w =
    let turns = rounds_first has_free_slot m w.scheduler in (
      turns.0,
      λ rest. (
        ap (λ (p : Past). then_played (of_turns w p) (of_loading deck)) (turns.1 rest).0,
        load_told deck (turns.0 ++ rest) w
            ∙ ap (λ (t : List ℕ). t ++ loading_lines deck (room (turns.0 ++ rest) w.scheduler).marks (with_scheduler w (room (turns.0 ++ rest) w.scheduler).after)) (turns.1 rest).1
            ∙ ap (λ (p : Past). lines_of_rounds has_free_slot m w.scheduler ++ loading_lines deck p.marks (with_scheduler w p.after)) (turns.1 rest).0
            ∙ sym (load_told deck m w),
      ),
    )

played_first : (events : List Event) (m : Marks) (w : SystemState)
    → First (λ k. played events k w) (λ k. record (played events m w) { marks = k }) (λ k. audit_of events k w) (audit_of events m w)
played_first [] m w = ([], λ rest. (refl, refl))
played_first (event ∷ events) m w =
    let one = happened_first event m w in
    let here = happened event m w in
    let later = played_first events here.marks here.after in (
      one.0 ++ later.0,
      λ rest. (
        ap (λ (k : Marks). played (event ∷ events) k w) (append_assoc one.0 later.0 rest)
            ∙ ap (λ (p : Played). then_played p (played events)) (one.1 (later.0 ++ rest)).0
            ∙ ap (λ (p : Played). let q : Played = record p { printouts = here.printouts ++ p.printouts } in q) (later.1 rest).0,
        ap (λ (k : Marks). audit_of (event ∷ events) k w) (append_assoc one.0 later.0 rest)
            ∙ told event events w (one.0 ++ (later.0 ++ rest))
            ∙ ap (λ (t : List ℕ). t ++ audit_of events (happened event (one.0 ++ (later.0 ++ rest)) w).marks (happened event (one.0 ++ (later.0 ++ rest)) w).after) (one.1 (later.0 ++ rest)).1
            ∙ ap (λ (p : Played). event_lines event m w ++ audit_of events p.marks p.after) (one.1 (later.0 ++ rest)).0
            ∙ ap (λ (t : List ℕ). event_lines event m w ++ t) (later.1 rest).1
            ∙ sym (told event events w m),
      ),
    )
  where
    told : (event : Event) (events : List Event) (w : SystemState) (k : Marks)
        → audit_of (event ∷ events) k w ≡ event_lines event k w ++ audit_of events (happened event k w).marks (happened event k w).after
    told event events w k = audit_append (event_entries event k w) (history events (happened event k w).marks (happened event k w).after)

abbrev as_taken : List ℕ → Played → Taken (List ℕ) DataSet Telling (Option Mark)
as_taken lines p = record { out = record { printouts = p.printouts; audit = lines }; sets = p.after.scheduler.sets; marks = p.marks }

pub takes_first : (slots : ℕ) (accounts : List Account) → TakesFirst (audited_texts slots accounts)
takes_first slots accounts events marks sets =
    let w = first_system slots accounts sets in
    let all = played_first events marks w in (
      all.0,
      λ rest.
          ap (as_taken (audit_of events (all.0 ++ rest) w)) (all.1 rest).0
          ∙ ap (λ (lines : List ℕ). as_taken lines (let q : Played = record (played events marks w) { marks = rest } in q)) (all.1 rest).1,
    )
