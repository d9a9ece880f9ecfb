-- Large exponents: only 0, 1 and -1 have such powers among the integers.
use Rattle.std.proofs.Common.{arith, ◌≡◌, ◌≢◌, ℕ, zero, suc, ◌*◌, ◌≤◌, ◌<◌, ◌^◌, ◌%◌, refl, sym, ap, ◌∙◌, Bool, true, false, cond, ◌==◌, ℤ, pos, negsuc, neg_ℤ}
use Rattle.std.specs.{Prelude.{Some, None, nat_lt, unsigned_abs, int_le, if◌then◌else◌}, Int.{int_pow}}
use Rattle.std.proofs.{Math.Nat.{pow-le-pow_left, pow-le-pow_right, pow-suc}, lemmas.Bool.Decides.{nat_tests}}
use Rattle.sno_value.specs.Values.{is_integer, integer_of}

one_to : (e : ℕ) → 1 ^ e ≡ 1
one_to zero = refl
one_to (suc e) = pow-suc 1 e ∙ ap (λ (n : ℕ). n * 1) (one_to e)

zero_to : (e : ℕ) → 0 < e → 0 ^ e ≡ 0
zero_to zero h = absurd (omega arith)
zero_to (suc e) h = pow-suc 0 e ∙ omega arith

-- 0 and 1 are their own powers
pub own_power : (base : ℤ) (e n : ℕ) → n ≡ unsigned_abs base → n ≤ 1 → int_le (pos 0) base ≡ true → 64 ≤ e → Some base ≡ integer_of (int_pow base e)
own_power (pos zero) e n is small up high = ap (λ (k : ℕ). integer_of (pos k)) (sym (zero_to e (omega arith)))
own_power (pos (suc zero)) e n is small up high = ap (λ (k : ℕ). integer_of (pos k)) (sym (one_to e))
own_power (pos (suc (suc a))) e n is small up high = absurd (omega arith)
own_power (negsuc a) e n is small up high = absurd (cc)

minus_one_at : (e : ℕ) (b : Bool) → (e % 2 == 0) ≡ b → (if b then pos 1 else negsuc 0) ≡ int_pow (negsuc 0) e
minus_one_at e true h = ap (λ (n : ℕ). pos n) (sym (one_to e)) ∙ sym (ap (λ (c : Bool). cond c (pos (1 ^ e)) (neg_ℤ (pos (1 ^ e)))) h)
minus_one_at e false h = ap (λ (n : ℕ). neg_ℤ (pos n)) (sym (one_to e)) ∙ sym (ap (λ (c : Bool). cond c (pos (1 ^ e)) (neg_ℤ (pos (1 ^ e)))) h)

-- -1 has two
pub even_power : (base : ℤ) (e n : ℕ) → n ≡ unsigned_abs base → n ≤ 1 → int_le (pos 0) base ≡ false → e % 2 ≡ 0 → Some (pos 1) ≡ integer_of (int_pow base e)
even_power (pos a) e n is small down even = absurd (grind (arith, nat_tests, down))
even_power (negsuc zero) e n is small down even = ap integer_of (minus_one_at e true (grind (arith, nat_tests, even)))
even_power (negsuc (suc a)) e n is small down even = absurd (omega arith)

pub odd_power : (base : ℤ) (e n : ℕ) → n ≡ unsigned_abs base → n ≤ 1 → int_le (pos 0) base ≡ false → e % 2 ≢ 0 → Some (negsuc 0) ≡ integer_of (int_pow base e)
odd_power (pos a) e n is small down odd = absurd (grind (arith, nat_tests, down))
odd_power (negsuc zero) e n is small down odd = ap integer_of (minus_one_at e false (grind (arith, nat_tests, odd)))
odd_power (negsuc (suc a)) e n is small down odd = absurd (omega arith)

large : (a e : ℕ) → 2 ≤ a → 64 ≤ e → 2 ^ 64 ≤ a ^ e
large a e two up =
    let base : 2 ^ 64 ≤ a ^ 64 = pow-le-pow_left two 64 in
    let more : a ^ 64 ≤ a ^ e = pow-le-pow_right {n = a} (omega arith) {i = 64} {j = e} up in
    omega arith

no_integer : (z : ℤ) (b : Bool) → is_integer z ≡ b → b ≡ false → None ≡ integer_of z
no_integer z b e f = sym (ap (λ (c : Bool). if c then Some z else None) (e ∙ f))

too_large : (n : ℕ) → 2 ^ 64 ≤ n → None ≡ integer_of (pos n)
too_large n up = no_integer (pos n) (nat_lt n (2 ^ 63)) refl (grind (arith, nat_tests, up))

too_small : (n : ℕ) → 2 ^ 64 ≤ n → None ≡ integer_of (neg_ℤ (pos n))
too_small zero up = absurd (omega arith)
too_small (suc n) up = no_integer (negsuc n) (nat_lt n (2 ^ 63)) refl (grind (arith, nat_tests, up))

either : (n : ℕ) (b : Bool) → 2 ^ 64 ≤ n → None ≡ integer_of (cond b (pos n) (neg_ℤ (pos n)))
either n true up = too_large n up
either n false up = too_small n up

-- the others have none
pub no_power : (base : ℤ) (e n : ℕ) → n ≡ unsigned_abs base → 1 < n → 64 ≤ e → None ≡ integer_of (int_pow base e)
no_power (pos a) e n is high up = too_large (a ^ e) (large a e (omega arith) up)
no_power (negsuc a) e n is high up = either ((suc a) ^ e) (e % 2 == 0) (large (suc a) e (omega arith) up)
