-- The value of digits only grows with them, and each number has some.
use Rattle.std.proofs.Common.{arith, ◌≡◌, ℕ, suc, ◌+◌, ◌-◌, ◌*◌, ◌^◌, ◌≤◌, ◌<◌, List, [], ◌∷◌, length, refl, sym, drop, get_or, add-one, drop-cons, ap, ◌∙◌, Bool, true, false}
use Rattle.std.specs.{Prelude.{ℤ, pos, negsuc, Option, None, nat_le, if◌then◌else◌}, Fmt.{signed_decimal}, Int.Signed.{mag}}
use Rattle.std.proofs.lemmas.{Fmt.{decimal_nonempty}, Bool.Decides.{nat_tests}}
use Rattle.mon_text.proofs.Digits.{read_on}

grows : (digits : List ℕ) (n : ℕ) → n ≤ read_on n digits
grows [] n = omega arith
grows (c ∷ cs) n = let h = grows cs (10 * n + (c - 48)) in omega (arith, h)

more : (xs : List ℕ) (i : ℕ) → i < length xs → drop i xs ≡ get_or xs i 0 ∷ drop (i + 1) xs
more xs i lt = rw add-one (drop-cons xs i 0 lt)

-- the value of all digits is no less than that of the first of them
pub value_grows : (xs : List ℕ) (i n value : ℕ) → i < length xs → read_on n (drop i xs) ≡ value → 10 * n + (get_or xs i 0 - 48) ≤ value
value_grows xs i n value lt e =
    let d : read_on n (get_or xs i 0 ∷ drop (i + 1) xs) ≡ value = ap (read_on n) (sym (more xs i lt)) ∙ e in
    let h = grows (drop (i + 1) xs) (10 * n + (get_or xs i 0 - 48)) in
    omega (arith, d, h)

none_at : {A : Type 0} → (n m : ℕ) (x : Option A) (b : Bool) → nat_le n m ≡ b → m < n → None ≡ (if b then x else None)
none_at n m x true e h = absurd (grind (arith, nat_tests, e))
none_at n m x false e h = refl

-- a number above a limit has no value up to it
pub none_above : {A : Type 0} → (n m : ℕ) (x : Option A) → m < n → None ≡ (if nat_le n m then x else None)
none_above n m x h = none_at n m x (nat_le n m) refl h

pub has_digits : (z : ℤ) → mag z < 2 ^ 63 → 0 < length (signed_decimal z)
has_digits (pos n) h = decimal_nonempty n (omega arith)
has_digits (negsuc n) h = let some = decimal_nonempty (suc n) (omega arith) in omega (arith, some)
