-- Bits tell the characters before one, and then that one too.
use Rattle.std.proofs.Common.{◌≡◌, ℕ, zero, suc, ◌+◌, ◌*◌, ◌/◌, ◌%◌, ◌^◌, ◌<◌, Bool, true, false, ◌&&◌, ◌||◌, eqb, List, [], ◌∷◌, length, take, get_or, set, refl, sym, ap, ◌∙◌, inl, inr, arith, length-set, get_or-set_same, get_or-set_other, eq-eqb, ne_eqb, w64, bit_or}
use Rattle.std.specs.Int.{bit_at}
use Rattle.std.proofs.lemmas.{Bool.{cases_eq}, Bool.Decides.{nat_tests}, List.Folds.{list_any_more}, Nat.Bits.{bit_at_set_same, bit_at_set_other}}
use Rattle.mon_text.specs.{Characters.{is_printable}, Lines.{IsLine}}
use Rattle.sno_text.specs.inner.Classes.{has_bit, Tells}

or_true : (a b : Bool) → b ≡ true → true ≡ (a || b)
or_true true b h = refl
or_true false b h = sym h

or_false : (a b : Bool) → b ≡ false → a ≡ (a || b)
or_false true b h = refl
or_false false b h = sym h

first : (a b : Bool) → (a && b) ≡ true → a ≡ true
first true b h = refl
first false b h = h

second : (a b : Bool) → (a && b) ≡ true → b ≡ true
second true b h = h
second false b h = let no : false ≡ true = h in cc

-- the words with the bit of one more character
abbrev pub with_bit : List ℕ → ℕ → List ℕ
with_bit bits c = set bits (c / 64) (bit_or (get_or bits (c / 64) 0) (1 * 2 ^ (c % 64) % 2 ^ 64))

-- that one is set, and the others stay
one_set : (bits : List ℕ) (c d : ℕ) → length bits ≡ 2 → c < 128 → has_bit (with_bit bits c) d ≡ (has_bit bits d || eqb c d)
one_set bits c d two low =
    let word = get_or bits (c / 64) 0 in
    let new = bit_or word (1 * 2 ^ (c % 64) % 2 ^ 64) in
    let within : c / 64 < length bits = omega arith in
    let bit : c % 64 < 64 = omega arith in
    elim (cases_eq d c) as (λ _. has_bit (with_bit bits c) d ≡ (has_bit bits d || eqb c d)) [
      | inl same ↦
          rw same
          (ap (λ x. eqb (bit_at x (c % 64)) 1) (get_or-set_same bits (c / 64) new 0 within)
          ∙ eq-eqb _ 1 (bit_at_set_same w64 word (c % 64) bit)
          ∙ or_true (has_bit bits c) (eqb c c) (eq-eqb c c refl))
      | inr other ↦
          (elim (cases_eq (d / 64) (c / 64)) as (λ _. has_bit (with_bit bits c) d ≡ has_bit bits d) [
            | inl row ↦
                ap (λ x. eqb (bit_at (get_or (with_bit bits c) x 0) (d % 64)) 1) row
                ∙ ap (λ x. eqb (bit_at x (d % 64)) 1) (get_or-set_same bits (c / 64) new 0 within)
                ∙ ap (λ x. eqb x 1) (bit_at_set_other w64 word (c % 64) bit (d % 64) (omega arith))
                ∙ ap (λ x. eqb (bit_at (get_or bits x 0) (d % 64)) 1) (sym row)
            | inr apart ↦ ap (λ x. eqb (bit_at x (d % 64)) 1) (get_or-set_other bits (c / 64) (d / 64) new 0 apart)
          ])
          ∙ or_false (has_bit bits d) (eqb c d) (ne_eqb c d (λ e. other (sym e)))
    ]

small : (c : ℕ) → is_printable c ≡ true → c < 128
small c h = grind (arith, nat_tests)

-- the characters of a line are below 128
low_at : (text : List ℕ) (i : ℕ) → IsLine text → i < length text → get_or text i 0 < 128
low_at [] i h within = absurd (omega arith)
low_at (c ∷ cs) zero h within = small c (first _ _ h)
low_at (c ∷ cs) (suc i) h within = low_at cs i (second (is_printable c) _ h) (omega arith)

-- the step of the loop
pub told_more : (bits text : List ℕ) (i : ℕ) → IsLine text → i < length text → Tells bits (take i text)
    → Tells (with_bit bits (get_or text i 0)) (take (i + 1) text)
told_more bits text i line within told =
    let c = get_or text i 0 in (
      length-set bits (c / 64) _ ∙ told.0,
      λ d. one_set bits c d told.0 (low_at text i line within) ∙ ap (λ b. b || eqb c d) (told.1 d) ∙ sym (list_any_more (λ y. eqb y d) text i 0 within),
    )
