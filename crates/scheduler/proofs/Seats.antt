-- Seats that are looked at after one was changed.
use Rattle.std.proofs.Common.{◌≡◌, ℕ, zero, suc, ◌+◌, Bool, true, false, List, [], ◌∷◌, length, Option, Some, None, refl, ap, replicate, map, option_map, slice_get, slice_set, is_some, is_none, IsSome}
use Rattle.scheduler.proofs.Common.{list_any, list_all, position_from, option_flatten, Slot, SlotState, seat_at, with_seat, first_free, seats_of}

pub set_length : {A : Type 0} (xs : List A) (i : ℕ) (v : A) → length (slice_set xs i v) ≡ length xs
set_length [] i v = refl
set_length (x ∷ xs) zero v = refl
set_length (x ∷ xs) (suc i) v = ap suc (set_length xs i v)

pub set_get : {A : Type 0} (xs : List A) (i : ℕ) (v : A) → slice_get xs i ≡ Some v → slice_set xs i v ≡ xs
set_get [] i v h = refl
set_get (x ∷ xs) zero v h = cc (h)
set_get {A} (x ∷ xs) (suc i) v h = ap (λ (ys : List A). x ∷ ys) (set_get xs i v h)

pub get_set : {A : Type 0} (xs : List A) (i : ℕ) (u v : A) → slice_get xs i ≡ Some u → slice_get (slice_set xs i v) i ≡ Some v
get_set [] i u v h = absurd cc
get_set (x ∷ xs) zero u v h = refl
get_set (x ∷ xs) (suc i) u v h = get_set xs i u v h

pub set_set : {A : Type 0} (xs : List A) (i : ℕ) (u v : A) → slice_set (slice_set xs i u) i v ≡ slice_set xs i v
set_set [] i u v = refl
set_set (x ∷ xs) zero u v = refl
set_set {A} (x ∷ xs) (suc i) u v = ap (λ (ys : List A). x ∷ ys) (set_set xs i u v)

pub map_get : {A B : Type 0} (f : A → B) (xs : List A) (i : ℕ) → slice_get (map f xs) i ≡ option_map f (slice_get xs i)
map_get f [] i = refl
map_get f (x ∷ xs) zero = refl
map_get f (x ∷ xs) (suc i) = map_get f xs i

pub map_set : {A B : Type 0} (f : A → B) (xs : List A) (i : ℕ) (v : A) → map f (slice_set xs i v) ≡ slice_set (map f xs) i (f v)
map_set f [] i v = refl
map_set f (x ∷ xs) zero v = refl
map_set {A} {B} f (x ∷ xs) (suc i) v = ap (λ (ys : List B). f x ∷ ys) (map_set f xs i v)

pub seat_length : (s : ℕ) (o : Option SlotState) (slots : List (Option SlotState)) → length (with_seat s o slots) ≡ length slots
seat_length zero o slots = refl
seat_length (suc i) o slots = set_length slots i o

-- where all are empty, each is
none_seated : (slots : List (Option SlotState)) → list_all is_none slots ≡ true → (i : ℕ) → option_flatten (slice_get slots i) ≡ None
none_seated [] h i = refl
none_seated (None ∷ slots) h zero = refl
none_seated (None ∷ slots) h (suc i) = none_seated slots h i
none_seated (Some x ∷ slots) h i = absurd cc

pub none_at : (slots : List (Option SlotState)) → list_all is_none slots ≡ true → (s : ℕ) → seat_at s slots ≡ None
none_at slots h zero = refl
none_at slots h (suc i) = none_seated slots h i

pub seated_not_done : (s : ℕ) (slots : List (Option SlotState)) → IsSome (seat_at s slots) → list_all is_none slots ≡ false
seated_not_done s slots h = by (list_all is_none slots) refl
  where
    by : (b : Bool) → list_all is_none slots ≡ b → b ≡ false
    by false e = refl
    by true e = absurd (let none = none_at slots e s in cc (h, none))

pub none_of : (slots : List (Option Slot)) → list_all (λ seat. is_none seat) slots ≡ list_all is_none (seats_of slots)
none_of [] = refl
none_of (None ∷ slots) = none_of slots
none_of (Some x ∷ slots) = refl

some_from : (n : ℕ) (slots : List (Option Slot)) → list_any (λ seat. is_none seat) slots ≡ is_some (position_from is_none n (seats_of slots))
some_from n [] = refl
some_from n (None ∷ slots) = refl
some_from n (Some x ∷ slots) = some_from (n + 1) slots

pub some_free : (slots : List (Option Slot)) → list_any (λ seat. is_none seat) slots ≡ is_some (first_free (seats_of slots))
some_free slots = some_from 1 slots

pub empty_seats : (n : ℕ) → seats_of (replicate n None) ≡ replicate n None
empty_seats zero = refl
empty_seats (suc n) = ap (λ (l : List (Option SlotState)). None ∷ l) (empty_seats n)
