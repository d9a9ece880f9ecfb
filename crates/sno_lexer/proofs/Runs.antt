-- Where runs of characters end, and the values of digits.
use Rattle.std.proofs.Common.{arith, ◌≡◌, ℕ, ◌+◌, ◌-◌, ◌*◌, ◌≤◌, ◌<◌, List, [], ◌∷◌, length, refl, sym, drop, get_or, add-one, drop-cons, ap, ◌∙◌}
use Rattle.std.specs.{Prelude.{Bool, true, false, Option, Some, None, ℤ, cond, nat_lt, position, if◌then◌else◌}, Option.{unwrap_or}, List.{position_or_len}}
use Rattle.std.proofs.lemmas.{List.Sums.{prefix_len-le-length}, Bool.Decides.{nat_tests}}
use Rattle.mon_text.proofs.Digits.{read_on}

at_or : (n m : ℕ) (b : Bool) → nat_lt n m ≡ b → n ≤ m → unwrap_or (cond b (Some n) None) m ≡ n
at_or n m true e h = refl
at_or n m false e h = grind (arith, nat_tests, e)

-- the first place at which a test passes, or the length, in the words of `position`
pub or_length : (p : ℕ → Bool) (xs : List ℕ) → unwrap_or (position p xs) (length xs) ≡ position_or_len p xs
or_length p xs = at_or (position_or_len p xs) (length xs) (nat_lt (position_or_len p xs) (length xs)) refl (prefix_len-le-length _ xs)

-- more digits make no value smaller
pub grows : (digits : List ℕ) (n : ℕ) → n ≤ read_on n digits
grows [] n = omega arith
grows (c ∷ cs) n = let h = grows cs (10 * n + (c - 48)) in omega (arith, h)

-- a list from an index on
pub more : (xs : List ℕ) (i : ℕ) → i < length xs → drop i xs ≡ get_or xs i 0 ∷ drop (i + 1) xs
more xs i lt = rw add-one (drop-cons xs i 0 lt)

-- the value of all digits is no less than that of the first of them
pub value_grows : (xs : List ℕ) (i n value : ℕ) → i < length xs → read_on n (drop i xs) ≡ value → 10 * n + (get_or xs i 0 - 48) ≤ value
value_grows xs i n value lt e =
    let d : read_on n (get_or xs i 0 ∷ drop (i + 1) xs) ≡ value = ap (read_on n) (sym (more xs i lt)) ∙ e in
    let h = grows (drop (i + 1) xs) (10 * n + (get_or xs i 0 - 48)) in
    omega (arith, d, h)

none_at : (n m : ℕ) (x : Option ℤ) (b : Bool) → nat_lt n m ≡ b → m ≤ n → None ≡ (if b then x else None)
none_at n m x true e h = absurd (grind (arith, nat_tests, e))
none_at n m x false e h = refl

-- a number that is not below a limit has no value below it
pub none_above : (n m : ℕ) (x : Option ℤ) → m ≤ n → None ≡ (if nat_lt n m then x else None)
none_above n m x h = none_at n m x (nat_lt n m) refl h
