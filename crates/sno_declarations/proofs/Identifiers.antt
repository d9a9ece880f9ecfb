-- An identifier is a text of ASCII 32 to 126.
use Rattle.std.proofs.Common.{◌≡◌, ℕ, Bool, true, false, ◌&&◌, List, [], ◌∷◌, refl, ap, ◌∙◌, arith}
use Rattle.std.{specs.List.{list_all}, proofs.lemmas.Bool.Decides.{nat_tests}}
use Rattle.mon_text.specs.{Characters.{is_letter, is_printable, is_identifier_character}, Lines.{IsLine}}
use Rattle.sno_declarations.specs.Prototypes.{is_identifier}

letter : (c : ℕ) → is_letter c ≡ true → is_printable c ≡ true
letter c h = grind (arith, nat_tests)

character : (c : ℕ) → is_identifier_character c ≡ true → is_printable c ≡ true
character c h = grind (arith, nat_tests)

first : (a b : Bool) → (a && b) ≡ true → a ≡ true
first true b h = refl
first false b h = h

second : (a b : Bool) → (a && b) ≡ true → b ≡ true
second true b h = h
second false b h = let no : false ≡ true = h in cc

characters : (cs : List ℕ) → list_all is_identifier_character cs ≡ true → IsLine cs
characters [] h = refl
characters (c ∷ cs) h = ap (λ (b : Bool). b && list_all is_printable cs) (character c (first _ _ h)) ∙ characters cs (second (is_identifier_character c) _ h)

pub line_of_identifier : (text : List ℕ) → is_identifier text ≡ true → IsLine text
line_of_identifier [] h = refl
line_of_identifier (c ∷ cs) h = ap (λ (b : Bool). b && list_all is_printable cs) (letter c (first _ _ h)) ∙ characters cs (second (is_letter c) _ h)
