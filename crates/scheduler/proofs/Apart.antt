-- Whether no data set is tied by units of two slots can be told.
use Rattle.std.proofs.Common.{◌≡◌, ◌≢◌, ℕ, zero, suc, ◌<◌, Bool, true, false, List, [], ◌∷◌, Option, Some, None, option_map, refl, ap, sym, ◌∙◌, subst, inl, inr, arith, ◌⊎◌, ◌↔◌, not, ◌&&◌, slice_get, nat_lt}
use Rattle.scheduler.proofs.Common.{list_any, any_passes_from_place, option_flatten, Sets, TiedTo, Slot, SlotState, scheduler, seat_at, slot_of, seat_of, seats_of, Independent, seats_share, are_apart}
use Rattle.scheduler.proofs.{Seats.{map_get}, Shared.{any_place, shared_set, they_share}}

both_true : (a b : Bool) → (a && b) ≡ true → (a ≡ true) × (b ≡ true)
both_true true true h = (refl, refl)
both_true true false h = absurd cc
both_true false b h = absurd cc

not_true : (a : Bool) → not a ≡ true → a ≡ false
not_true true h = absurd cc
not_true false h = refl

-- of two slots, the one before the other
pairs : (slots : List (Option Slot)) → are_apart slots ≡ true → (s t : ℕ) (a b : Slot) → s < t
    → slice_get slots s ≡ Some (Some a) → slice_get slots t ≡ Some (Some b) → seats_share (Some a) (Some b) ≡ true → ⊥
pairs [] h s t a b lt is is' e = cc
pairs (x ∷ xs) h zero zero a b lt is is' e = omega (arith, lt)
pairs (x ∷ xs) h (suc s) zero a b lt is is' e = omega (arith, lt)
pairs (x ∷ xs) h zero (suc t) a b lt is is' e =
    let parts = both_true (not (list_any (seats_share x) xs)) (are_apart xs) h in
    let none = not_true (list_any (seats_share x) xs) parts.0 in
    let who : x ≡ Some a = cc (is) in
    let some = any_passes_from_place (seats_share x) xs t (Some b) is' (subst (λ (y : Option Slot). seats_share y (Some b) ≡ true) (sym who) e) in
    cc (none, some)
pairs (x ∷ xs) h (suc s) (suc t) a b lt is is' e =
    pairs xs (both_true (not (list_any (seats_share x) xs)) (are_apart xs) h).1 s t a b (omega (arith, lt)) is is' e

before_or : (s t : ℕ) → s ≢ t → (s < t) ⊎ (t < s)
before_or s t ne = by (nat_lt s t) refl (nat_lt t s) refl
  where
    by : (a : Bool) → nat_lt s t ≡ a → (b : Bool) → nat_lt t s ≡ b → (s < t) ⊎ (t < s)
    by true e b f = inl (grind (arith, e))
    by false e true f = inr (grind (arith, f))
    by false e false f = absurd (ne (grind (arith, e, f)))

-- no data set is tied in two of them
record Apart (slots : List (Option Slot)) : Type 0 where
  pub none : (s t : ℕ) (a b : Slot) → s < t → slice_get slots s ≡ Some (Some a) → slice_get slots t ≡ Some (Some b)
      → (name : List ℕ) → TiedTo a.units name → TiedTo b.units name → ⊥

all_apart : (slots : List (Option Slot)) → Apart slots → are_apart slots ≡ true
all_apart [] h = refl
all_apart (x ∷ xs) h =
    by (list_any (seats_share x) xs) refl (all_apart xs (record { none = λ s t a b lt is is' n p q. h.none (suc s) (suc t) a b (omega (arith, lt)) is is' n p q }))
  where
    seats : (y : Option Slot) → x ≡ y → (o : Option Slot) (t : ℕ) → slice_get xs t ≡ Some o → seats_share y o ≡ true → ⊥
    seats None e o t is m = cc
    seats (Some a) e None t is m = cc
    seats (Some a) e (Some b) t is m =
        let s = shared_set a.units b.units m in
        h.none zero (suc t) a b (omega arith) (ap (λ (y : Option Slot). Some y) e) is s.name s.one s.other

    by : (c : Bool) → list_any (seats_share x) xs ≡ c → are_apart xs ≡ true → (not c && are_apart xs) ≡ true
    by true e rest = let p = any_place (seats_share x) xs e in absurd (seats x refl p.item p.at p.is p.passes)
    by false e rest = rest

-- a job in a seat is that of a slot
record Holds (slots : List (Option Slot)) (s : ℕ) (x : SlotState) : Type 0 where
  pub slot : Slot
  pub is : slice_get slots s ≡ Some (Some slot)
  pub seen : slot_of slot ≡ x

holds : (slots : List (Option Slot)) (s : ℕ) (x : SlotState) → option_flatten (slice_get (seats_of slots) s) ≡ Some x → Holds slots s x
holds slots s x h = by (slice_get slots s) refl (ap option_flatten (sym (map_get seat_of slots s)) ∙ h)
  where
    by : (o : Option (Option Slot)) → slice_get slots s ≡ o → option_flatten (option_map seat_of o) ≡ Some x → Holds slots s x
    by None e q = absurd cc
    by (Some None) e q = absurd cc
    by (Some (Some slot)) e q = record { slot = slot; is = e; seen = cc (q) }

held : (slots : List (Option Slot)) (s : ℕ) (slot : Slot) → slice_get slots s ≡ Some (Some slot) → option_flatten (slice_get (seats_of slots) s) ≡ Some (slot_of slot)
held slots s slot h = ap option_flatten (map_get seat_of slots s ∙ ap (option_map seat_of) h)

pub apart_is : (slots : List (Option Slot)) (sets : Sets) → (are_apart slots ≡ true) ↔ Independent (scheduler sets (seats_of slots))
apart_is slots sets = (
  λ h s t a b ne is is' name p q. two h s t a b ne is is' name p q,
  λ apart. all_apart slots (record {
    none = λ s t a b lt is is' name p q.
        apart (suc s) (suc t) (slot_of a) (slot_of b) (λ (e : suc s ≡ suc t). absurd (omega (arith, lt, e))) (held slots s a is) (held slots t b is') name p q;
  }),
)
  where
    two : are_apart slots ≡ true → (s t : ℕ) (a b : SlotState) → s ≢ t → seat_at s (seats_of slots) ≡ Some a → seat_at t (seats_of slots) ≡ Some b
        → (name : List ℕ) → TiedTo a.units name → TiedTo b.units name → ⊥
    two h zero t a b ne is is' name p q = absurd cc
    two h (suc s) zero a b ne is is' name p q = absurd cc
    two h (suc s) (suc t) a b ne is is' name p q =
        let x = holds slots s a is in
        let y = holds slots t b is' in
        let one = subst (λ (k : SlotState). TiedTo k.units name) (sym x.seen) p in
        let other = subst (λ (k : SlotState). TiedTo k.units name) (sym y.seen) q in
        elim (before_or s t (λ e. ne (ap suc e))) [
          | inl lt ↦ pairs slots h s t x.slot y.slot lt x.is y.is (they_share x.slot.units y.slot.units name one other)
          | inr lt ↦ pairs slots h t s y.slot x.slot lt y.is x.is (they_share y.slot.units x.slot.units name other one)
        ]
