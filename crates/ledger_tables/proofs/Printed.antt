-- Lines of two words, as they are printed: they say something, have these words, and are cut as they were written.
use Rattle.std.proofs.Common.{◌≡◌, ℕ, suc, ◌<◌, ◌^◌, Bool, true, false, not, ◌&&◌, ◌||◌, ◌==◌, cond, filter, List, [], ◌∷◌, ◌++◌, length, refl, sym, ap, ◌∙◌, true≢false, arith}
use Rattle.std.specs.{Prelude.{decimal}, List.{list_all, slice_split, onto_first}}
use Rattle.std.proofs.lemmas.{Bool.Decides.{nat_tests}, Fmt.{decimal_nonempty}, List.Folds.{list_all-append}, List.Splits.{slice_split-cons_no}}
use borrow.Author.Tests.{eqb-true, ne_eqb}
use Rattle.mon_text.specs.{Characters.{is_blank, is_digit, is_letter, is_printable}, Names.{IsName, is_name_character}, Lines.{is_nonempty, words}}
use Rattle.mon_text.proofs.Counted.{digits_of_decimal}
use Rattle.site_plan.specs.Walks.{is_skipped}

pub both : (a b : Bool) → (a && b) ≡ true → (a ≡ true) × (b ≡ true)
both true b e = (refl, e)
both false b e = absurd (true≢false (sym e))

-- a character that passes a test is none that does not
differs : (p : ℕ → Bool) (k : ℕ) → p k ≡ false → (c : ℕ) → p c ≡ true → (c == k) ≡ false
differs p k none c passes = by (c == k) refl
  where
    by : (b : Bool) → (c == k) ≡ b → b ≡ false
    by false e = refl
    by true e = absurd (true≢false (sym passes ∙ ap p (eqb-true c k e) ∙ none))

-- ---- words

abbrev pub HasNoBlank : List ℕ → Type 0
HasNoBlank word = list_all (λ c. not (is_blank c)) word ≡ true

all_pass : (p : ℕ → Bool) → p 32 ≡ false → (word : List ℕ) → list_all p word ≡ true → HasNoBlank word
all_pass p none [] passes = refl
all_pass p none (c ∷ cs) passes =
    let parts = both (p c) (list_all p cs) passes in
    ap (λ (b : Bool). not b && list_all (λ d. not (is_blank d)) cs) (differs p 32 none c parts.0) ∙ all_pass p none cs parts.1

is_no_blank : (c : ℕ) (cs : List ℕ) → HasNoBlank (c ∷ cs) → is_blank c ≡ false
is_no_blank c cs h = by (is_blank c) ((both (not (is_blank c)) (list_all (λ d. not (is_blank d)) cs) h).0)
  where
    by : (b : Bool) → not b ≡ true → b ≡ false
    by false e = refl
    by true e = absurd (true≢false (sym e))

cut : (word rest : List ℕ) → HasNoBlank word → slice_split is_blank (word ++ 32 ∷ rest) ≡ word ∷ slice_split is_blank rest
cut [] rest h = refl
cut (c ∷ cs) rest h =
    slice_split-cons_no is_blank c (cs ++ 32 ∷ rest) (is_no_blank c cs h)
    ∙ ap (onto_first c) (cut cs rest ((both (not (is_blank c)) (list_all (λ d. not (is_blank d)) cs) h).1))

cut_last : (word : List ℕ) → HasNoBlank word → slice_split is_blank word ≡ word ∷ []
cut_last [] h = refl
cut_last (c ∷ cs) h =
    slice_split-cons_no is_blank c cs (is_no_blank c cs h)
    ∙ ap (onto_first c) (cut_last cs ((both (not (is_blank c)) (list_all (λ d. not (is_blank d)) cs) h).1))

kept : (word : List ℕ) (others : List (List ℕ)) → is_nonempty word ≡ true → filter is_nonempty (word ∷ others) ≡ word ∷ filter is_nonempty others
kept word others h = ap (λ (b : Bool). cond b (word ∷ filter is_nonempty others) (filter is_nonempty others)) h

-- two words with a blank between them
pub two_words : (one other : List ℕ) → HasNoBlank one → HasNoBlank other → is_nonempty one ≡ true → is_nonempty other ≡ true
    → words (one ++ 32 ∷ other) ≡ one ∷ other ∷ []
two_words one other a b some more =
    ap (filter is_nonempty) (cut one other a ∙ ap (λ (ws : List (List ℕ)). one ∷ ws) (cut_last other b))
    ∙ kept one (other ∷ []) some
    ∙ ap (λ (ws : List (List ℕ)). one ∷ ws) (kept other [] more)

-- ---- digits and names

module _ (n : ℕ) (fits : n < 2 ^ 63) where
  word : n < 2 ^ 64
  word = omega (arith, fits)

  pub digits_have_no_blank : HasNoBlank (decimal n)
  digits_have_no_blank = all_pass is_digit refl (decimal n) (digits_of_decimal n word).0

  pub digits_are_some : is_nonempty (decimal n) ≡ true
  digits_are_some = let some : 0 < length (decimal n) = decimal_nonempty n word in ap not (ne_eqb (length (decimal n)) 0 (omega (arith, some)))

  -- a line that begins with digits says something
  pub digits_are_not_skipped : (rest : List ℕ) → is_skipped (decimal n ++ rest) ≡ false
  digits_are_not_skipped rest = by (decimal n) ((digits_of_decimal n word).0) (decimal_nonempty n word)
    where
      by : (ds : List ℕ) → list_all is_digit ds ≡ true → 0 < length ds → is_skipped (ds ++ rest) ≡ false
      by [] are some = absurd (omega (arith, some))
      by (d ∷ ds) are some =
          let is = (both (is_digit d) (list_all is_digit ds) are).0 in
          ap (λ (b : Bool). b || (is_blank d && list_all is_blank (ds ++ rest))) (differs is_digit 35 refl d is)
          ∙ ap (λ (b : Bool). b && list_all is_blank (ds ++ rest)) (differs is_digit 32 refl d is)

pub name_has_no_blank : (name : List ℕ) → IsName name → HasNoBlank name
name_has_no_blank [] h = absurd (true≢false (sym h))
name_has_no_blank (c ∷ cs) h =
    let two = both (is_letter c && list_all is_name_character cs) _ h in
    let parts = both (is_letter c) (list_all is_name_character cs) two.0 in
    ap (λ (b : Bool). not b && list_all (λ d. not (is_blank d)) cs) (differs is_letter 32 refl c parts.0) ∙ all_pass is_name_character refl cs parts.1

pub name_is_some : (name : List ℕ) → IsName name → is_nonempty name ≡ true
name_is_some [] h = absurd (true≢false (sym h))
name_is_some (c ∷ cs) h = ap not (ne_eqb (suc (length cs)) 0 (omega arith))

-- ---- what is printable

passing : (p : ℕ → Bool) → ((c : ℕ) → p c ≡ true → is_printable c ≡ true) → (text : List ℕ) → list_all p text ≡ true → list_all is_printable text ≡ true
passing p shows [] passes = refl
passing p shows (c ∷ cs) passes =
    let parts = both (p c) (list_all p cs) passes in
    ap (λ (b : Bool). b && list_all is_printable cs) (shows c parts.0) ∙ passing p shows cs parts.1

letter_shows : (c : ℕ) → is_letter c ≡ true → is_printable c ≡ true
letter_shows c is = grind (arith, nat_tests, is)

digit_shows : (c : ℕ) → is_digit c ≡ true → is_printable c ≡ true
digit_shows c is = grind (arith, nat_tests, is)

name_character_shows : (c : ℕ) → is_name_character c ≡ true → is_printable c ≡ true
name_character_shows c is = grind (arith, nat_tests, is)

pub name_shows : (name : List ℕ) → IsName name → list_all is_printable name ≡ true
name_shows [] is = absurd (true≢false (sym is))
name_shows (c ∷ cs) is =
    let two = both (is_letter c && list_all is_name_character cs) _ is in
    let parts = both (is_letter c) (list_all is_name_character cs) two.0 in
    ap (λ (b : Bool). b && list_all is_printable cs) (letter_shows c parts.0) ∙ passing is_name_character name_character_shows cs parts.1

pub digits_show : (n : ℕ) → n < 2 ^ 63 → list_all is_printable (decimal n) ≡ true
digits_show n fits = passing is_digit digit_shows (decimal n) ((digits_of_decimal n (omega (arith, fits))).0)

-- two words with a blank between them
pub both_show : (one other : List ℕ) → list_all is_printable one ≡ true → list_all is_printable other ≡ true → list_all is_printable (one ++ 32 ∷ other) ≡ true
both_show one other a b = list_all-append is_printable one (32 ∷ other) ∙ ap (λ (x : Bool). x && list_all is_printable other) a ∙ b
