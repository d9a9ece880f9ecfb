-- What stands behind the marks that events take does not matter to them.
use Rattle.std.proofs.Common.{◌≡◌, ℕ, Bool, true, false, List, [], ◌∷◌, ◌++◌, length, drop, refl, ap, ◌∙◌, replicate, append_assoc}
use Rattle.std.specs.Prelude.{if◌then◌else◌}
use Rattle.mon_monitor.proofs.Common.{Marks, mark_of, Past, nothing, turn_as, until, never, rounds, turns_left, rounds_until, is_done, has_free_slot, ends_by, SchedulerState, SystemState, first_system, Event, Serve, Load, Give, Drain, Played, of_turns, of_loading, then_played, happened, played}
use Rattle.mon_access.specs.declared.account.Account.{Account}
use Rattle.parts_laws.specs.Threads.{TakesFirst}
use Rattle.frame_laws.specs.Texts.{texts_of}

-- some first marks do; what stands behind them is left
abbrev First : {A : Type 0} → (Marks → A) → (Marks → A) → Type 0
First does leaves = (used : Marks) × ((rest : Marks) → does (used ++ rest) ≡ leaves rest)

abbrev goes_on : (SchedulerState → Bool) → ℕ → List ℕ → SchedulerState → Marks → Past
goes_on stop s E w k = let later = until stop E (drop 1 k) (turn_as (mark_of k) s w).1 in record later { ends = ends_by s (turn_as (mark_of k) s w).0 ++ later.ends }

until_first : (stop : SchedulerState → Bool) (E : List ℕ) (m : Marks) (w : SchedulerState) → First (λ k. until stop E k w) (λ k. record (until stop E m w) { marks = k })
until_first stop [] m w = ([], λ rest. refl)
until_first stop (s ∷ E) m w = by (stop w) (until_first stop E (drop 1 m) (turn_as (mark_of m) s w).1)
  where
    by : (b : Bool) → First (λ k. until stop E k (turn_as (mark_of m) s w).1) (λ k. record (until stop E (drop 1 m) (turn_as (mark_of m) s w).1) { marks = k })
        → First (λ k. if b then nothing k w else goes_on stop s E w k) (λ k. record (if b then nothing m w else goes_on stop s E w m) { marks = k })
    by true later = ([], λ rest. refl)
    by false later = (mark_of m ∷ later.0, λ rest. ap (λ (p : Past). let q : Past = record p { ends = ends_by s (turn_as (mark_of m) s w).0 ++ p.ends } in q) (later.1 rest))

rounds_first : (stop : SchedulerState → Bool) (m : Marks) (w : SchedulerState) → First (λ k. rounds_until stop k w) (λ k. record (rounds_until stop m w) { marks = k })
rounds_first stop m w = until_first stop (rounds (turns_left w.slots) (length w.slots)) m w

happened_first : (event : Event) (m : Marks) (w : SystemState) → First (λ k. happened event k w) (λ k. record (happened event m w) { marks = k })
happened_first (Serve command) m w = ([], λ rest. refl)
happened_first (Give slot count) m w = let turns = until_first never (replicate count slot) m w.scheduler in (turns.0, λ rest. ap (of_turns w) (turns.1 rest))
happened_first Drain m w = let turns = rounds_first is_done m w.scheduler in (turns.0, λ rest. ap (of_turns w) (turns.1 rest))
happened_first (Load deck) m w =
    let turns = rounds_first has_free_slot m w.scheduler in
    (turns.0, λ rest. ap (λ (p : Past). then_played (of_turns w p) (of_loading deck)) (turns.1 rest))

played_first : (events : List Event) (m : Marks) (w : SystemState) → First (λ k. played events k w) (λ k. record (played events m w) { marks = k })
played_first [] m w = ([], λ rest. refl)
played_first (event ∷ events) m w =
    let one = happened_first event m w in
    let here = happened event m w in
    let later = played_first events here.marks here.after in (
      one.0 ++ later.0,
      λ rest.
          ap (λ (k : Marks). played (event ∷ events) k w) (append_assoc one.0 later.0 rest)
          ∙ ap (λ (p : Played). then_played p (played events)) (one.1 (later.0 ++ rest))
          ∙ ap (λ (p : Played). let q : Played = record p { printouts = here.printouts ++ p.printouts } in q) (later.1 rest),
    )

pub takes_first : (slots : ℕ) (accounts : List Account) → TakesFirst (texts_of slots accounts)
takes_first slots accounts events marks sets =
    let all = played_first events marks (first_system slots accounts sets) in
    (all.0, λ rest. ap (λ (p : Played). record { out = p.printouts; sets = p.after.scheduler.sets; marks = p.marks }) (all.1 rest))
