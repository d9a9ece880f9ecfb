-- The names of claimed files say what they were made of.
use Rattle.std.proofs.Common.{◌≡◌, ◌≢◌, ℕ, suc, ◌+◌, ◌-◌, ◌*◌, ◌/◌, ◌%◌, ◌^◌, ◌<◌, ◌≤◌, Bool, true, false, ◌&&◌, nat_le, List, [], ◌∷◌, ◌++◌, length, take, drop, Some, None, if◌then◌else◌, refl, ap, ◌∙◌, option_map, arith}
use Rattle.std.specs.{Prelude.{decimal, ◌==◌}, Option.{option_and_then}, List.{list_all, AllByRecursion}}
use Rattle.std.proofs.lemmas.{Fmt.{decimal_by_steps, decimal_nonempty, length-decimal-le}, List.Folds.{list_all-append}, Bool.Decides.{nat_tests}}
use borrow.Author.Tests.{le-leb}
use Rattle.mon_text.{specs.Characters.{is_digit}, specs.Counts.{is_count, value_of}, proofs.Digits.{read_on}}
use Rattle.ledger_text.specs.Records.{count_of}
use Rattle.ledger_names.specs.Naming.{colon, parts_at, split, claim_with, claim_behind, claim_of_parts, ReadsNames}

-- ---- the digits of a number, and their value

abbrev AreDigitsOf : ℕ → List ℕ → Type 0
AreDigitsOf n ds = (list_all is_digit ds ≡ true) × (value_of ds ≡ n)

read_on_push : (so_far : ℕ) (ds : List ℕ) (c : ℕ) → read_on so_far (ds ++ c ∷ []) ≡ 10 * read_on so_far ds + (c - 48)
read_on_push so_far [] c = refl
read_on_push so_far (d ∷ ds) c = read_on_push (10 * so_far + (d - 48)) ds c

is_digit_of : (n : ℕ) → n < 10 → is_digit (48 + n) ≡ true
is_digit_of n small = ap (λ (b : Bool). b && nat_le (48 + n) 57) (le-leb 48 (48 + n) (omega arith)) ∙ le-leb (48 + n) 57 (omega arith)

one_digit : (n : ℕ) → n < 10 → AreDigitsOf n ((48 + n) ∷ [])
one_digit n small = (ap (λ (b : Bool). b && true) (is_digit_of n small), omega arith)

one_more_digit : (n : ℕ) (ds : List ℕ) → 10 ≤ n → AreDigitsOf (n / 10) ds → AreDigitsOf n (ds ++ (48 + n % 10) ∷ [])
one_more_digit n ds large (digits, value) = (
  list_all-append is_digit ds ((48 + n % 10) ∷ [])
      ∙ ap (λ (b : Bool). b && (is_digit (48 + n % 10) && true)) digits
      ∙ ap (λ (b : Bool). b && true) (is_digit_of (n % 10) (omega arith)),
  read_on_push 0 ds (48 + n % 10) ∙ omega (arith, value),
)

module _ (n : ℕ) (fits : n < 2 ^ 63) where
  fits_word : n < 2 ^ 64
  fits_word = omega arith

  few : n < 10 ^ 19
  few = omega arith

  digits : AreDigitsOf n (decimal n)
  digits = decimal_by_steps AreDigitsOf one_digit one_more_digit n fits_word

  is_count_of : is_count (decimal n) ≡ true
  is_count_of =
      ap (λ (b : Bool). b && nat_le 1 (length (decimal n)) && nat_le (length (decimal n)) 19) digits.0
      ∙ ap (λ (b : Bool). b && nat_le (length (decimal n)) 19) (le-leb 1 (length (decimal n)) (decimal_nonempty n fits_word))
      ∙ le-leb (length (decimal n)) 19 (length-decimal-le 19 n (omega arith) few fits_word)

  count_back : count_of (decimal n) ≡ Some n
  count_back = ap (λ (b : Bool). if b then Some (value_of (decimal n)) else None) is_count_of ∙ ap (λ (v : ℕ). Some v) digits.1

-- ---- colons

no_colon : (c : ℕ) → is_digit c ≡ true → c ≢ 58
no_colon c h same = by (nat_le 48 c) (nat_le c 57) refl h
  where
    by : (a b : Bool) → nat_le c 57 ≡ b → (a && b) ≡ true → ⊥
    by true true e h = grind (arith, nat_tests, e, same)
    by true false e h = cc (h)
    by false b e h = cc (h)

no_colons : (ds : List ℕ) → list_all is_digit ds ≡ true → AllByRecursion (λ c. c ≢ 58) ds
no_colons [] h = tt
no_colons (d ∷ ds) h = by (is_digit d) refl h (λ later. no_colons ds later)
  where
    by : (b : Bool) → is_digit d ≡ b → (b && list_all is_digit ds) ≡ true → (list_all is_digit ds ≡ true → AllByRecursion (λ c. c ≢ 58) ds) → AllByRecursion (λ c. c ≢ 58) (d ∷ ds)
    by true e h more = (no_colon d e, more h)
    by false e h more = absurd (cc (h))

colon_at : (n : ℕ) (front rest : List ℕ) → AllByRecursion (λ c. c ≢ 58) front → colon n (front ++ 58 ∷ rest) ≡ Some (n + length front)
colon_at n [] rest none = ap (λ (i : ℕ). Some i) (omega arith)
colon_at n (c ∷ front) rest none =
    ap (λ (b : Bool). if b then Some n else colon (n + 1) (front ++ 58 ∷ rest)) other ∙ colon_at (n + 1) front rest none.1
    ∙ (let e : n + 1 + length front ≡ n + length (c ∷ front) = omega arith in ap (λ (i : ℕ). Some i) e)
  where
    apart : (b : Bool) → (c == 58) ≡ b → (c == 58) ≡ false
    apart true e = absurd (none.0 (grind (arith, nat_tests, e)))
    apart false e = e

    other : (c == 58) ≡ false
    other = apart (c == 58) refl

take_front : (front rest : List ℕ) → take (length front) (front ++ rest) ≡ front
take_front [] rest = refl
take_front (c ∷ front) rest = ap (λ (l : List ℕ). c ∷ l) (take_front front rest)

drop_front : (front : List ℕ) (c : ℕ) (rest : List ℕ) → drop (length front + 1) (front ++ c ∷ rest) ≡ rest
drop_front [] c rest = refl
drop_front (d ∷ front) c rest =
    let e : length (d ∷ front) + 1 ≡ suc (length front + 1) = omega arith in ap (λ (k : ℕ). drop k (d ∷ (front ++ c ∷ rest))) e ∙ drop_front front c rest

split_at : (front rest : List ℕ) → AllByRecursion (λ c. c ≢ 58) front → split (front ++ 58 ∷ rest) ≡ Some (front, rest)
split_at front rest none =
    ap (parts_at (front ++ 58 ∷ rest)) (colon_at 0 front rest none ∙ (let e : 0 + length front ≡ length front = omega arith in ap (λ (i : ℕ). Some i) e))
    ∙ ap (λ (l : List ℕ). Some (l, drop (length front + 1) (front ++ 58 ∷ rest))) (take_front front (58 ∷ rest))
    ∙ ap (λ (l : List ℕ). Some (front, l)) (drop_front front 58 rest)

pub reads_names : ReadsNames
reads_names number account name fits none =
    ap (option_and_then claim_of_parts) (split_at (decimal number) (account ++ 58 ∷ name) (no_colons (decimal number) (digits number fits).0))
    ∙ ap (option_and_then (claim_behind (decimal number))) (split_at account name none)
    ∙ ap (option_map (claim_with account name)) (count_back number fits)
