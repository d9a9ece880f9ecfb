-- What is made of texts of ASCII 32 to 126 is one.
use Rattle.std.proofs.Common.{◌≡◌, ℕ, zero, suc, ℤ, pos, negsuc, Bool, true, false, ◌&&◌, ◌+◌, ◌%◌, ◌^◌, ◌<◌, List, [], ◌∷◌, ◌++◌, take, drop, refl, ap, ◌∙◌, arith}
use Rattle.std.specs.{Fmt.{decimal, signed_decimal}, Int.Signed.{mag}}
use Rattle.std.proofs.lemmas.{Fmt.{decimal_by_steps}, List.Folds.{list_all-append}, Bool.Decides.{nat_tests}}
use Rattle.mon_text.specs.{Characters.{is_printable}, Lines.{IsLine, is_line}}

both : (a b : Bool) → a ≡ true → b ≡ true → (a && b) ≡ true
both a b h k = ap (λ (x : Bool). x && b) h ∙ k

first : (a b : Bool) → (a && b) ≡ true → a ≡ true
first true b h = refl
first false b h = h

second : (a b : Bool) → (a && b) ≡ true → b ≡ true
second true b h = h
second false b h = let no : false ≡ true = h in cc

pub line_of_join : (xs ys : List ℕ) → IsLine xs → IsLine ys → IsLine (xs ++ ys)
line_of_join xs ys h k = list_all-append is_printable xs ys ∙ both (is_line xs) (is_line ys) h k

pub line_of_take : (n : ℕ) (xs : List ℕ) → IsLine xs → IsLine (take n xs)
line_of_take zero xs h = refl
line_of_take (suc n) [] h = refl
line_of_take (suc n) (c ∷ cs) h = both (is_printable c) _ (first _ _ h) (line_of_take n cs (second (is_printable c) _ h))

pub line_of_drop : (n : ℕ) (xs : List ℕ) → IsLine xs → IsLine (drop n xs)
line_of_drop zero xs h = h
line_of_drop (suc n) [] h = refl
line_of_drop (suc n) (c ∷ cs) h = line_of_drop n cs (second (is_printable c) _ h)

printable_digit : (d : ℕ) → d < 10 → is_printable (48 + d) ≡ true
printable_digit d h = grind (arith, nat_tests)

pub line_of_decimal : (n : ℕ) → n < 2 ^ 64 → IsLine (decimal n)
line_of_decimal n h =
    decimal_by_steps (λ _ ds. IsLine ds)
    (λ n h. both (is_printable (48 + n)) true (printable_digit n h) refl)
    (λ n ds h more. line_of_join ds ((48 + n % 10) ∷ []) more (both (is_printable (48 + n % 10)) true (printable_digit (n % 10) (omega arith)) refl))
    n h

pub line_of_number : (z : ℤ) → mag z < 2 ^ 63 → IsLine (signed_decimal z)
line_of_number (pos n) h = line_of_decimal n (omega arith)
line_of_number (negsuc n) h = line_of_decimal (suc n) (omega arith)
