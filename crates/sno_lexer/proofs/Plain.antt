-- Before the goto, a letter begins an identifier.
use Rattle.std.proofs.Common.{arith, ◌≡◌, ◌∙◌, ℕ, List, ◌∷◌, refl, sym, ap}
use Rattle.std.{specs.Prelude.{Bool, true, false, not, ◌&&◌, nat_lt, nat_le, Ok, Err, if◌then◌else◌}, proofs.lemmas.Bool.Decides.{nat_tests}}
use Rattle.mon_text.specs.{Characters.{is_letter}, Lines.{is_line}}
use Rattle.sno_lexer.specs.declared.{begin.Class.TheVariants.{Identifier}, begin.Context.{Context}, fault.FaultKind.TheVariants.{Foreign, TooMany}}
use Rattle.sno_lexer.{specs.inner.Classes.{class_of, found, is_one_too_many, let_in_if_good, text_of}, proofs.Clean.{clean}}

room : (n : ℕ) → nat_lt n 1000 ≡ true → nat_le 1000 n ≡ false
room n e = grind (arith, nat_tests, e)

class_is : (s : Context) (c : ℕ) (cs : List ℕ) → s.in_goto ≡ false → s.at_target ≡ false → is_letter c ≡ true → class_of s (c ∷ cs) ≡ Ok Identifier
class_is s c cs before other letter = rw (other, letter, before) refl

let_in_is : (line many : Bool) → line ≡ true → many ≡ false
    → (if not line then Err Foreign else if many then Err TooMany else Ok Identifier) ≡ Ok Identifier
let_in_is line many e f = rw (e, f) refl

found_is : (s : Context) (c : ℕ) (cs : List ℕ) (goto target few : Bool) → s.in_goto ≡ goto → s.at_target ≡ target → nat_lt s.tokens 1000 ≡ few
    → is_letter c ≡ true → (not goto && not target && few) ≡ true → found s (c ∷ cs) ≡ Ok Identifier
found_is s c cs false false true before other few letter e =
    ap (let_in_if_good s (c ∷ cs)) (class_is s c cs before other letter)
    ∙ let_in_is (is_line (text_of Identifier (c ∷ cs))) (is_one_too_many s Identifier) (clean Identifier (c ∷ cs) refl) (room s.tokens few)
found_is s c cs true target few before other is letter e = cc
found_is s c cs false true few before other is letter e = cc
found_is s c cs false false false before other is letter e = cc

pub plain : (s : Context) (c : ℕ) (cs : List ℕ) → is_letter c ≡ true → (not s.in_goto && not s.at_target && nat_lt s.tokens 1000) ≡ true
    → Ok Identifier ≡ found s (c ∷ cs)
plain s c cs letter e = sym (found_is s c cs s.in_goto s.at_target (nat_lt s.tokens 1000) refl refl refl letter e)
