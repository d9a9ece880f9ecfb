-- A number of digits only grows.
use Rattle.std.proofs.Common.{◌≡◌, ℕ, suc, ◌+◌, ◌-◌, ◌*◌, ◌<◌, ◌≤◌, Bool, true, false, ◌&&◌, List, [], ◌∷◌, drop, get_or, drop-cons, length, refl, sym, ap, ◌∙◌, arith, nat_le, None, Some}
use Rattle.std.{specs.Prelude.{if◌then◌else◌}, specs.List.{list_all}, proofs.lemmas.Bool.Decides.{nat_tests}}
use Rattle.mon_text.{specs.Characters.{is_digit}, specs.Counts.{value_of}, proofs.Digits.{read_on}}
use Rattle.sno_declarations.specs.Formats.{number_to}

grows : (n : ℕ) (digits : List ℕ) → n ≤ read_on n digits
grows n [] = omega arith
grows n (c ∷ cs) = omega (arith, grows (10 * n + (c - 48)) cs)

and_false : (a b : Bool) → (a && b && false) ≡ false
and_false true true = refl
and_false true false = refl
and_false false b = refl

-- past the most it stays there
pub past : (most : ℕ) (text : List ℕ) (n i : ℕ) → i < length text → read_on n (drop i text) ≡ value_of text
    → most < 10 * n + (get_or text i 0 - 48) → None ≡ number_to most text
past most text n i within value more =
    let next = 10 * n + (get_or text i 0 - 48) in
    let at : read_on next (drop (suc i) text) ≡ value_of text = sym (ap (read_on n) (drop-cons text i 0 within)) ∙ value in
    let large : most < value_of text = omega (arith, at, more, grows next (drop (suc i) text)) in
    let no : nat_le (value_of text) most ≡ false = grind (arith, nat_tests) in
    sym (ap (λ (b : Bool). if b then Some (value_of text) else None)
    (ap (λ (b : Bool). list_all is_digit text && nat_le 1 (value_of text) && b) no ∙ and_false (list_all is_digit text) (nat_le 1 (value_of text))))
