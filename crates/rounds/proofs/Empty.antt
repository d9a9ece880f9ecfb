-- A system whose slots are empty is a first one.
use Rattle.std.proofs.Common.{◌≡◌, ℕ, zero, suc, true, List, [], ◌∷◌, ◌++◌, length, Option, None, refl, ap, ap₂, ◌∙◌, replicate}
use Rattle.std.specs.{List.{list_all}, Prelude.{is_none}}
use Rattle.mon_access.specs.declared.account.Account.{Account}
use Rattle.mon_catalogue.specs.Sets.{Sets}
use Rattle.scheduler.{specs.States.{SlotState, scheduler, job_in, seat_at}, specs.Marks.{Marks, Past, is_done, rounds, turns_left}, proofs.Past.{until_stops}}
use Rattle.mon_monitor.specs.{SystemStates.{SystemState, first_system}, Events.{Event, Drain}, Played.{Played, of_turns, happened, played}}
use Rattle.mon_monitor.specs.Laws.{CardByCard, DrainEmpties, AccountsStay, SlotsStay}

all_none : (slots : List (Option SlotState)) → ((i : ℕ) → seat_at (suc i) slots ≡ None) → slots ≡ replicate (length slots) None
all_none [] are = refl
all_none (seat ∷ slots) are = ap₂ (λ (s : Option SlotState) (ss : List (Option SlotState)). s ∷ ss) (are 0) (all_none slots (λ i. are (suc i)))

pub is_first : (slots : ℕ) (accounts : List Account) (w : SystemState) → w.accounts ≡ accounts → length w.scheduler.slots ≡ slots → ((s : ℕ) → job_in s w.scheduler ≡ None)
    → w ≡ first_system slots accounts w.scheduler.sets
is_first slots accounts w table number empty =
    let seats : w.scheduler.slots ≡ replicate slots None = all_none w.scheduler.slots (λ i. empty (suc i)) ∙ ap (λ (k : ℕ). replicate k None) number in
    ap₂ (λ (a : List Account) (ss : List (Option SlotState)). (let r : SystemState = record { accounts = a; scheduler = scheduler w.scheduler.sets ss } in r)) table seats

-- with all slots empty there is nothing to drain
none_left : (slots : ℕ) → list_all is_none (replicate slots (let none : Option SlotState = None in none)) ≡ true
none_left zero = refl
none_left (suc slots) = none_left slots

pub nothing_left : (slots : ℕ) (accounts : List Account) (sets : Sets) (m : Marks)
    → happened Drain m (first_system slots accounts sets) ≡ record { printouts = []; after = first_system slots accounts sets; marks = m }
nothing_left slots accounts sets m =
    let w = first_system slots accounts sets in
    ap (λ (p : Past). of_turns w p) (until_stops is_done (rounds (turns_left w.scheduler.slots) (length w.scheduler.slots)) m w.scheduler (none_left slots))

module _ (card_by_card : CardByCard) (drain_empties : DrainEmpties) (accounts_stay : AccountsStay) (slots_stay : SlotsStay) where
  -- behind a drain
  pub drained : (slots : ℕ) (accounts : List Account) (sets : Sets) (E : List Event) (m : Marks)
      → length (first_system slots accounts sets).scheduler.slots ≡ slots
      → (let p = played (E ++ Drain ∷ []) m (first_system slots accounts sets) in p.after ≡ first_system slots accounts p.after.scheduler.sets)
  drained slots accounts sets E m number =
      let w = first_system slots accounts sets in
      let first = played E m w in
      let p = played (E ++ Drain ∷ []) m w in
      is_first slots accounts p.after (accounts_stay (E ++ Drain ∷ []) m w) (slots_stay (E ++ Drain ∷ []) m w ∙ number)
      (λ s. ap (λ (q : Played). job_in s q.after.scheduler) (card_by_card E (Drain ∷ []) m w) ∙ drain_empties first.marks first.after s)
