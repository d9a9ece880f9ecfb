-- A number in decimal is no format, as no parenthesis stands before its digits.
use Rattle.std.proofs.Common.{◌≡◌, ℕ, zero, suc, ℤ, pos, negsuc, Bool, true, false, ◌&&◌, ◌+◌, ◌/◌, ◌%◌, List, [], ◌∷◌, take, drop, Some, None, refl, sym, ap, ◌∙◌, arith, nat_eq, nat_lt}
use Rattle.std.specs.{Prelude.{codes, ◌==◌, if◌then◌else◌}, Fmt.{digit_glyph, digits_onto, digits, decimal, signed_decimal}}
use Rattle.std.{specs.Cmp.Lexicographic.{pointwise}, proofs.lemmas.Bool.Decides.{nat_tests}, specs.Option.{option_and_then}}
use Rattle.sno_value.specs.{declared.value.Value.{Value}, declared.value.Value.TheVariants.{Integer}, Values.{text_of}}
use Rattle.sno_declarations.{specs.Formats.{format_of}, proofs.Shorthand.{format_without_blank, format_behind}}

-- what begins with no parenthesis, if with anything
abbrev begins : List ℕ → ℕ
begins [] = 0
begins (c ∷ cs) = c

abbrev Open : List ℕ → Type 0
Open text = nat_eq (begins text) 40 ≡ false

unread : (text : List ℕ) → Open text → format_of text ≡ None
unread [] h = refl
unread (c ∷ cs) h =
    ap (λ (b : Bool). format_behind (c ∷ cs) (if b && pointwise nat_eq (take 3 cs) (codes "1X,") then Some (drop 4 (c ∷ cs)) else None)) h
    ∙ ap (λ (b : Bool). format_without_blank (if b && pointwise nat_eq (take 0 cs) [] then Some cs else None)) h

glyph : (d : ℕ) → nat_eq (digit_glyph false d) 40 ≡ false
glyph d = by (nat_lt d 10) refl
  where
    by : (b : Bool) → nat_lt d 10 ≡ b → nat_eq (if b then 48 + d else 87 + d) 40 ≡ false
    by true h = grind (arith, nat_tests)
    by false h = grind (arith, nat_tests)

onto : (k n : ℕ) (more : List ℕ) → Open more → Open (digits_onto k 10 false n more)
onto zero n more h = h
onto (suc k) n more h = by (n / 10 == 0) (onto k (n / 10) (digit_glyph false (n % 10) ∷ more) (glyph (n % 10)))
  where
    by : (b : Bool) → Open (digits_onto k 10 false (n / 10) (digit_glyph false (n % 10) ∷ more))
        → Open (if b then digit_glyph false (n % 10) ∷ more else digits_onto k 10 false (n / 10) (digit_glyph false (n % 10) ∷ more))
    by true rest = glyph (n % 10)
    by false rest = rest

decimals : (n : ℕ) → Open (decimal n)
unfolding digits
decimals n = onto 64 n [] refl

unformatted : (z : ℤ) → None ≡ format_of (signed_decimal z)
unformatted (pos n) = sym (unread (decimal n) (decimals n))
unformatted (negsuc n) = sym (unread (45 ∷ decimal (suc n)) refl)

pub no_format : (v : Value) (z : ℤ) → v ≡ Integer z → None ≡ option_and_then format_of (text_of v)
no_format v z is = unformatted z ∙ sym (ap (λ (w : Value). option_and_then format_of (text_of w)) is)
