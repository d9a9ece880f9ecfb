-- What identifiers, integers and signs hold is a line.
use Rattle.std.proofs.Common.{arith, ◌≡◌, ℕ, List, [], ◌∷◌, refl}
use Rattle.std.{specs.Prelude.{Bool, true, false, ◌&&◌}, specs.List.{list_all}, proofs.lemmas.Bool.Decides.{nat_tests}}
use Rattle.mon_text.specs.{Characters.{is_digit, is_identifier_character, is_printable}, Lines.{is_line}}
use Rattle.sno_lexer.{specs.declared.character.Run.TheVariants.{InIdentifier, InInteger}, specs.declared.begin.Class.{Class}, proofs.Words.{all_of_run}}
use Rattle.sno_lexer.specs.inner.Classes.{goes_on, holds_any, run_in, text_of}
use Rattle.sno_lexer.specs.declared.begin.Class.TheVariants.{Identifier, Label, Integer, Literal, Operator, Open, Close, Comma, Equals, Colon, On, OpenAngle, CloseAngle}

all_printable : (p : ℕ → Bool) → ((c : ℕ) → p c ≡ true → is_printable c ≡ true) → (text : List ℕ) → list_all p text ≡ true → is_line text ≡ true
all_printable p each [] e = refl
all_printable p each (c ∷ cs) e = at (p c) (is_printable c) (each c) e (all_printable p each cs)
  where
    at : (a b : Bool) → (a ≡ true → b ≡ true) → (a && list_all p cs) ≡ true → (list_all p cs ≡ true → is_line cs ≡ true)
        → (b && is_line cs) ≡ true
    at true true h e k = k e
    at true false h e k = let no : false ≡ true = h refl in cc
    at false b h e k = let no : false ≡ true = e in cc

in_identifier : (c : ℕ) → is_identifier_character c ≡ true → is_printable c ≡ true
in_identifier c e = grind (arith, nat_tests, e)

in_integer : (c : ℕ) → is_digit c ≡ true → is_printable c ≡ true
in_integer c e = grind (arith, nat_tests, e)

pub clean : (class : Class) (text : List ℕ) → holds_any class ≡ false → is_line (text_of class text) ≡ true
clean Identifier text e = all_printable (goes_on InIdentifier) in_identifier (run_in InIdentifier text) (all_of_run InIdentifier text)
clean Label text e = let no : true ≡ false = e in cc
clean (Integer value) text e = all_printable (goes_on InInteger) in_integer (run_in InInteger text) (all_of_run InInteger text)
clean Literal text e = let no : true ≡ false = e in cc
clean (Operator mark) text e = refl
clean Open text e = refl
clean Close text e = refl
clean OpenAngle text e = refl
clean CloseAngle text e = refl
clean Comma text e = refl
clean Equals text e = refl
clean Colon text e = refl
clean (On outcome) text e = refl
