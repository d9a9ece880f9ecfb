-- Seats whose jobs have other numbers.
use Rattle.std.proofs.Common.{◌≡◌, ℕ, zero, suc, ◌+◌, ◌-◌, List, [], ◌∷◌, Option, Some, None, refl, ap, ◌∙◌, map, option_map, slice_get, slice_set, replicate, is_none}
use Rattle.std.{specs.List.{list_all, position_from}, specs.Option.{option_flatten}, proofs.lemmas.Option.{slice_get-map}}
use Rattle.mon_monitor.proofs.Common.{SlotState, SchedulerState, seat_at, with_seat, first_free, turns_left, statements_begun, SystemState}

abbrev pub slot_as : (ℕ → ℕ) → SlotState → SlotState
slot_as f slot = record slot { number = f slot.number }

abbrev pub seat_as : (ℕ → ℕ) → Option SlotState → Option SlotState
seat_as f seat = option_map (slot_as f) seat

abbrev pub seats_as : (ℕ → ℕ) → List (Option SlotState) → List (Option SlotState)
seats_as f slots = map (seat_as f) slots

abbrev pub scheduler_as : (ℕ → ℕ) → SchedulerState → SchedulerState
scheduler_as f w = record { sets = w.sets; slots = seats_as f w.slots }

abbrev pub system_as : (ℕ → ℕ) → SystemState → SystemState
system_as f w = record { accounts = w.accounts; scheduler = scheduler_as f w.scheduler }

module _ (f : ℕ → ℕ) where
  flat_as : (o : Option (Option SlotState)) → option_flatten (option_map (seat_as f) o) ≡ seat_as f (option_flatten o)
  flat_as None = refl
  flat_as (Some seat) = refl

  pub seat_at_as : (s : ℕ) (slots : List (Option SlotState)) → seat_at s (seats_as f slots) ≡ seat_as f (seat_at s slots)
  seat_at_as zero slots = refl
  seat_at_as (suc i) slots = ap option_flatten (slice_get-map (seat_as f) slots i) ∙ flat_as (slice_get slots i)

  set_as : (slots : List (Option SlotState)) (i : ℕ) (seat : Option SlotState) → slice_set (seats_as f slots) i (seat_as f seat) ≡ seats_as f (slice_set slots i seat)
  set_as [] i seat = refl
  set_as (own ∷ slots) zero seat = refl
  set_as (own ∷ slots) (suc i) seat = ap (λ (l : List (Option SlotState)). seat_as f own ∷ l) (set_as slots i seat)

  pub with_seat_as : (s : ℕ) (seat : Option SlotState) (slots : List (Option SlotState)) → with_seat s (seat_as f seat) (seats_as f slots) ≡ seats_as f (with_seat s seat slots)
  with_seat_as zero seat slots = refl
  with_seat_as (suc i) seat slots = set_as slots i seat

  free_as : (n : ℕ) (slots : List (Option SlotState)) → position_from is_none n (seats_as f slots) ≡ position_from is_none n slots
  free_as n [] = refl
  free_as n (None ∷ slots) = refl
  free_as n (Some slot ∷ slots) = free_as (n + 1) slots

  pub first_free_as : (slots : List (Option SlotState)) → first_free (seats_as f slots) ≡ first_free slots
  first_free_as slots = free_as 1 slots

  pub none_as : (slots : List (Option SlotState)) → list_all is_none (seats_as f slots) ≡ list_all is_none slots
  none_as [] = refl
  none_as (None ∷ slots) = none_as slots
  none_as (Some slot ∷ slots) = refl

  pub turns_left_as : (slots : List (Option SlotState)) → turns_left (seats_as f slots) ≡ turns_left slots
  turns_left_as [] = refl
  turns_left_as (None ∷ slots) = ap (λ (n : ℕ). 0 + n) (turns_left_as slots)
  turns_left_as (Some slot ∷ slots) = ap (λ (n : ℕ). suc (slot.job.limits.statements - statements_begun slot.job) + n) (turns_left_as slots)

  pub empty_as : (slots : ℕ) → seats_as f (replicate slots None) ≡ replicate slots None
  empty_as zero = refl
  empty_as (suc slots) = ap (λ (l : List (Option SlotState)). None ∷ l) (empty_as slots)
