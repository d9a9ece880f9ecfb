-- The texts of a number from 1 to 8, as `clap` tests them and as std reads them.
use Rattle.std.proofs.Common.{◌≡◌, ◌≤◌, ◌==◌, ℕ, Bool, true, false, List, [], ◌∷◌, Some, None, refl, ap, subst, codes, arith}
use Rattle.std.specs.{Prelude.{if◌then◌else◌, pos, unwrap_or}, Str.{bytes_eq}, Str.Parse.{IsNumeral, digits_value, starts_with_minus, without_leading_plus}}
use Rattle.std.proofs.lemmas.{Int.{ints}, Bool.Decides.{nat_tests}}
use Rattle.clap.specs.{Lexer.{long_of, short_of, without_minus}, Values.{IsSignedIn}, ValueTests.{accepts}}
use Rattle.clap.{specs.declared.builder.value_parser.ValueParser.{ValueParser}, proofs.ValueTestLemmas.{Accepts-accepts, accepts-Accepts}}
use Rattle.clap.specs.declared.builder.value_parser.ValueParser.TheVariants as vp
use Rattle.snomon_library.specs.CommandLine.{Writes}

abbrev pub one_to_eight : ValueParser
one_to_eight = vp.Signed (pos 1) (pos 8)

abbrev pub passes : List ℕ → Bool
passes text = accepts false one_to_eight text

-- digits, with a plus before them or not, have no minus
no_minus : (text : List ℕ) → IsNumeral 10 (without_leading_plus text) → starts_with_minus text ≡ false
no_minus [] numeral = refl
no_minus (c ∷ cs) numeral = go (c == 45) refl
  where
    go : (minus : Bool) → (c == 45) ≡ minus → minus ≡ false
    go false is = refl
    go true is =
        let hyphen : c ≡ 45 = grind (arith, nat_tests) in
        let digit = subst (λ (d : ℕ). IsNumeral 10 (without_leading_plus (d ∷ cs))) hyphen numeral in
        absurd (omega (arith, digit.1.0))

-- a text that passes is a number from 1 to 8, with no minus
abbrev Reads : List ℕ → ℕ → Type 0
Reads text number = (starts_with_minus text ≡ false) × Writes text number × (1 ≤ number) × (number ≤ 8)

pub passed : (text : List ℕ) → passes text ≡ true → Reads text (digits_value 10 (without_leading_plus text))
passed text e = go (starts_with_minus text) refl (accepts-Accepts false one_to_eight text e)
  where
    go : (minus : Bool) → starts_with_minus text ≡ minus → IsSignedIn (pos 1) (pos 8) text → Reads text (digits_value 10 (without_leading_plus text))
    go true is within =
        let low = rw is at within.2 in
        absurd (omega (arith, ints))
    go false is within =
        let numeral : IsNumeral 10 (without_leading_plus text) = rw is at within.0 in
        let low = rw is at within.2 in
        let high = rw is at within.3 in
        (is, (numeral, refl), omega (arith, ints), omega (arith, ints))

-- and each such number passes
pub passing : (text : List ℕ) (number : ℕ) → Writes text number → 1 ≤ number → number ≤ 8 → passes text ≡ true
passing text number writes low high =
    let plain = no_minus text writes.0 in
    let is = writes.1 in
    let within : IsSignedIn (pos 1) (pos 8) text = rw plain (writes.0, omega (arith, ints), omega (arith, ints), omega (arith, ints)) in
    Accepts-accepts false one_to_eight text within

-- nothing is taken off such a text, and it is no flag
module _ (text : List ℕ) (p : passes text ≡ true) where
  pub without_minus_is : without_minus text ≡ text
  without_minus_is = by text (passed text p).0
    where
      by : (t : List ℕ) → starts_with_minus t ≡ false → without_minus t ≡ t
      by [] e = refl
      by (c ∷ cs) e = ap (λ (b : Bool). unwrap_or (if b then Some cs else None) (c ∷ cs)) e

  pub no_end : bytes_eq text (codes "--") ≡ false
  no_end = by text (passed text p).0
    where
      by : (t : List ℕ) → starts_with_minus t ≡ false → bytes_eq t (codes "--") ≡ false
      by [] e = refl
      by (c ∷ cs) e = rw e refl

  pub no_long : long_of text ≡ None
  no_long = by text (passed text p).0
    where
      by : (t : List ℕ) → starts_with_minus t ≡ false → long_of t ≡ None
      by [] e = refl
      by (c ∷ cs) e = rw e refl

  pub no_short : short_of text ≡ None
  no_short = by text (passed text p).0
    where
      by : (t : List ℕ) → starts_with_minus t ≡ false → short_of t ≡ None
      by [] e = refl
      by (c ∷ cs) e = rw e refl
