-- Seats that are looked at after one was changed.
use Rattle.std.proofs.Common.{◌≡◌, ◌≢◌, ℕ, zero, suc, ◌+◌, List, [], ◌∷◌, Option, Some, None, refl, ap, sym, ◌∙◌, subst, inl, inr, arith, ◌⊎◌, slice_get, slice_set, is_none}
use Rattle.scheduler.proofs.Common.{position_from, option_flatten, SlotState, seat_at, with_seat, first_free}

changed : (slots : List (Option SlotState)) (i j : ℕ) (o old : Option SlotState) → slice_get slots i ≡ Some old
    → ((j ≡ i) × (option_flatten (slice_get (slice_set slots i o) j) ≡ o)) ⊎ ((j ≢ i) × (option_flatten (slice_get (slice_set slots i o) j) ≡ option_flatten (slice_get slots j)))
changed [] i j o old h = absurd cc
changed (z ∷ slots) zero zero o old h = inl (refl, refl)
changed (z ∷ slots) zero (suc j) o old h = inr ((λ e. omega (arith, e)), refl)
changed (z ∷ slots) (suc i) zero o old h = inr ((λ e. omega (arith, e)), refl)
changed (z ∷ slots) (suc i) (suc j) o old h = elim (changed slots i j o old h) [
  | inl is ↦ inl (ap suc is.0, is.1)
  | inr not ↦ inr ((λ e. not.0 (omega (arith, e))), not.1)
]

-- there is such a seat
abbrev pub IsSeat : ℕ → List (Option SlotState) → Type 0
IsSeat zero slots = ⊥
IsSeat (suc i) slots = (old : Option SlotState) × (slice_get slots i ≡ Some old)

pub seat_changed : (s t : ℕ) (o : Option SlotState) (slots : List (Option SlotState)) → IsSeat s slots
    → ((t ≡ s) × (seat_at t (with_seat s o slots) ≡ o)) ⊎ ((t ≢ s) × (seat_at t (with_seat s o slots) ≡ seat_at t slots))
seat_changed zero t o slots h = absurd h
seat_changed (suc i) zero o slots h = inr ((λ e. omega (arith, e)), refl)
seat_changed (suc i) (suc j) o slots h = elim (changed slots i j o h.0 h.1) [
  | inl is ↦ inl (ap suc is.0, is.1)
  | inr not ↦ inr ((λ e. not.0 (omega (arith, e))), not.1)
]

pub taken_seat : (s : ℕ) (slots : List (Option SlotState)) (slot : SlotState) → seat_at s slots ≡ Some slot → IsSeat s slots
taken_seat zero slots slot h = absurd cc
taken_seat (suc i) slots slot h = by (slice_get slots i) refl h
  where
    by : (o : Option (Option SlotState)) → slice_get slots i ≡ o → option_flatten o ≡ Some slot → IsSeat (suc i) slots
    by None e g = absurd cc
    by (Some old) e g = (old, e)

free_at : (n : ℕ) (slots : List (Option SlotState)) (s : ℕ) → position_from is_none n slots ≡ Some s → (i : ℕ) × (s ≡ n + i) × (slice_get slots i ≡ Some None)
free_at n [] s h = absurd cc
free_at n (None ∷ slots) s h = (0, (let e : n ≡ s = cc (h) in omega (arith, e)), refl)
free_at n (Some x ∷ slots) s h = let rest = free_at (n + 1) slots s h in (suc rest.0, omega (arith, rest.1), rest.2)

-- the lowest free one is there, and empty
pub free_seat : (slots : List (Option SlotState)) (s : ℕ) → first_free slots ≡ Some s → IsSeat s slots × (seat_at s slots ≡ None)
free_seat slots s h =
    let at = free_at 1 slots s h in
    let is : suc at.0 ≡ s = omega (arith, at.1) in (
      subst (λ (k : ℕ). IsSeat k slots) is (None, at.2),
      ap (λ (k : ℕ). seat_at k slots) (sym is) ∙ ap option_flatten at.2,
    )
