-- A number in decimal is a count of that number.
use Rattle.std.proofs.Common.{◌≡◌, ℕ, ◌+◌, ◌-◌, ◌*◌, ◌/◌, ◌%◌, ◌^◌, ◌<◌, ◌≤◌, Bool, true, ◌&&◌, nat_le, List, [], ◌∷◌, ◌++◌, length, refl, ap, ◌∙◌, arith}
use Rattle.std.specs.{Prelude.{decimal}, List.{list_all}}
use Rattle.std.proofs.lemmas.{Fmt.{decimal_by_steps, decimal_nonempty, length-decimal-le}, List.Folds.{list_all-append}}
use borrow.Author.Tests.{le-leb}
use Rattle.mon_text.{specs.Characters.{is_digit}, specs.Counts.{is_count, IsCount, value_of}, proofs.Digits.{read_on}}

-- the digits of a number, and their value
abbrev pub AreDigitsOf : ℕ → List ℕ → Type 0
AreDigitsOf n ds = (list_all is_digit ds ≡ true) × (value_of ds ≡ n)

read_on_push : (so_far : ℕ) (ds : List ℕ) (c : ℕ) → read_on so_far (ds ++ c ∷ []) ≡ 10 * read_on so_far ds + (c - 48)
read_on_push so_far [] c = refl
read_on_push so_far (d ∷ ds) c = read_on_push (10 * so_far + (d - 48)) ds c

is_digit_of : (n : ℕ) → n < 10 → is_digit (48 + n) ≡ true
is_digit_of n small = ap (λ (b : Bool). b && nat_le (48 + n) 57) (le-leb 48 (48 + n) (omega arith)) ∙ le-leb (48 + n) 57 (omega arith)

one_digit : (n : ℕ) → n < 10 → AreDigitsOf n ((48 + n) ∷ [])
one_digit n small = (ap (λ (b : Bool). b && true) (is_digit_of n small), omega arith)

one_more_digit : (n : ℕ) (ds : List ℕ) → 10 ≤ n → AreDigitsOf (n / 10) ds → AreDigitsOf n (ds ++ (48 + n % 10) ∷ [])
one_more_digit n ds large (digits, value) = (
  list_all-append is_digit ds ((48 + n % 10) ∷ [])
      ∙ ap (λ (b : Bool). b && (is_digit (48 + n % 10) && true)) digits
      ∙ ap (λ (b : Bool). b && true) (is_digit_of (n % 10) (omega arith)),
  read_on_push 0 ds (48 + n % 10) ∙ omega (arith, value),
)

pub digits_of_decimal : (n : ℕ) → n < 2 ^ 64 → AreDigitsOf n (decimal n)
digits_of_decimal n small = decimal_by_steps AreDigitsOf one_digit one_more_digit n small

pub is_count_of : (n : ℕ) → n < 2 ^ 63 → is_count (decimal n) ≡ true
is_count_of n fits =
    let fits_word : n < 2 ^ 64 = omega arith in
    let few : n < 10 ^ 19 = omega arith in
    ap (λ (b : Bool). b && nat_le 1 (length (decimal n)) && nat_le (length (decimal n)) 19) (digits_of_decimal n fits_word).0
    ∙ ap (λ (b : Bool). b && nat_le (length (decimal n)) 19) (le-leb 1 (length (decimal n)) (decimal_nonempty n fits_word))
    ∙ le-leb (length (decimal n)) 19 (length-decimal-le 19 n (omega arith) few fits_word)

pub count_of_decimal : (n : ℕ) → n < 2 ^ 63 → IsCount (decimal n) × (value_of (decimal n) ≡ n)
count_of_decimal n fits = (is_count_of n fits, (digits_of_decimal n (omega arith)).1)
