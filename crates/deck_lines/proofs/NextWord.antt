-- The first word of a text, and what stands behind it.
use Rattle.std.proofs.Common.{◌≡◌, ℕ, suc, ◌+◌, ◌-◌, ◌<◌, ◌≤◌, ◌⊎◌, inl, inr, Bool, true, false, not, cond, if◌then◌else◌, filter, List, [], ◌∷◌, length, take, refl, sym, ap, subst, ◌∙◌, arith, length-take}
use Rattle.std.{specs.List.{slice_split, onto_first}, proofs.lemmas.List.Splits.{slice_split-cons_no, slice_split-cons_yes}}
use Rattle.mon_text.specs.{Beginnings.{without_leading}, Characters.{is_blank}, Lines.{is_nonempty, words}}

abbrev from_blank : List ℕ → List ℕ
from_blank text = without_leading (λ c. not (is_blank c)) text

pub shorter : (test : ℕ → Bool) (text : List ℕ) → length (without_leading test text) ≤ length text
shorter test [] = omega arith
shorter test (c ∷ cs) = by (test c) (shorter test cs)
  where
    by : (b : Bool) → length (without_leading test cs) ≤ length cs → length (if b then without_leading test cs else c ∷ cs) ≤ length (c ∷ cs)
    by true less = omega (arith, less)
    by false less = omega arith

-- blanks before a text add no word
skip : (text : List ℕ) → words text ≡ words (without_leading is_blank text)
skip [] = refl
skip (c ∷ cs) = by (is_blank c) refl (skip cs)
  where
    by : (b : Bool) → is_blank c ≡ b → words cs ≡ words (without_leading is_blank cs) → words (c ∷ cs) ≡ words (if b then without_leading is_blank cs else c ∷ cs)
    by true e more = ap (filter is_nonempty) (slice_split-cons_yes is_blank c cs e) ∙ more
    by false e more = refl

-- a text is cut before its first blank
record IsCut (text behind : List ℕ) : Type 0 where
  others : List (List ℕ)
  parts : slice_split is_blank text ≡ take (length text - length behind) text ∷ others
  words_left : filter is_nonempty others ≡ words behind

cut : (text : List ℕ) → IsCut text (from_blank text)
cut [] = record { others = []; parts = refl; words_left = refl }
cut (c ∷ cs) = by (is_blank c) refl (cut cs)
  where
    by : (b : Bool) → is_blank c ≡ b → IsCut cs (from_blank cs) → IsCut (c ∷ cs) (if not b then from_blank cs else c ∷ cs)
    by true e more = record {
      others = slice_split is_blank cs;
      parts = slice_split-cons_yes is_blank c cs e ∙ ap (λ (n : ℕ). take n (c ∷ cs) ∷ slice_split is_blank cs) (let none : 0 ≡ length (c ∷ cs) - length (c ∷ cs) = omega arith in none);
      words_left = ap (filter is_nonempty) (sym (slice_split-cons_yes is_blank c cs e));
    }
    by false e more = let less = shorter (λ d. not (is_blank d)) cs in record {
      others = more.others;
      parts =
          slice_split-cons_no is_blank c cs e ∙ ap (onto_first c) more.parts
          ∙ ap (λ (n : ℕ). take n (c ∷ cs) ∷ more.others) (let one : suc (length cs - length (from_blank cs)) ≡ length (c ∷ cs) - length (from_blank cs) = omega (arith, less) in one);
      words_left = more.words_left;
    }

abbrev first_word : List ℕ → List ℕ
first_word from = take (length from - length (from_blank from)) from

one_more : (text : List ℕ) →
    words text ≡ filter is_nonempty (first_word (without_leading is_blank text) ∷ slice_split is_blank (from_blank (without_leading is_blank text)))
one_more text =
    let from = without_leading is_blank text in
    let at = cut from in
    skip text ∙ ap (filter is_nonempty) at.parts
    ∙ ap (λ (others : List (List ℕ)). cond (is_nonempty (first_word from)) (first_word from ∷ others) others) at.words_left

-- where a text has a word, that is not empty
some : (text : List ℕ) →
    (length (without_leading is_blank text) ≡ 0) ⊎ (length (from_blank (without_leading is_blank text)) < length (without_leading is_blank text))
some [] = inl refl
some (c ∷ cs) = by (is_blank c) refl (some cs)
  where
    by : (b : Bool) → is_blank c ≡ b → (length (without_leading is_blank cs) ≡ 0) ⊎ (length (from_blank (without_leading is_blank cs)) < length (without_leading is_blank cs)) →
        (length (if b then without_leading is_blank cs else c ∷ cs) ≡ 0) ⊎ (length (from_blank (if b then without_leading is_blank cs else c ∷ cs)) < length (if b then without_leading is_blank cs else c ∷ cs))
    by true e more = more
    by false e more =
        let less = shorter (λ d. not (is_blank d)) cs in
        let same : length (from_blank (c ∷ cs)) ≡ length (from_blank cs) = ap (λ (b : Bool). length (if not b then from_blank cs else c ∷ cs)) e in
        inr (omega (arith, less, same))

none_behind : (text : List ℕ) → length (first_word (without_leading is_blank text)) ≡ 0 → length (from_blank (without_leading is_blank text)) ≡ 0
none_behind text e = by (some text)
  where
    by : (length (without_leading is_blank text) ≡ 0) ⊎ (length (from_blank (without_leading is_blank text)) < length (without_leading is_blank text)) →
        length (from_blank (without_leading is_blank text)) ≡ 0
    by (inl none) = let less = shorter (λ d. not (is_blank d)) (without_leading is_blank text) in omega (arith, less, none)
    by (inr more) =
        absurd (omega (arith, more, e, length-take (length (without_leading is_blank text) - length (from_blank (without_leading is_blank text))) (without_leading is_blank text)))

both_within : (text : List ℕ) → length (first_word (without_leading is_blank text)) + length (from_blank (without_leading is_blank text)) ≤ length text
both_within text =
    let from = without_leading is_blank text in
    let less = shorter is_blank text in
    let fewer = shorter (λ d. not (is_blank d)) from in
    omega (arith, less, fewer, length-take (length from - length (from_blank from)) from)

-- the same, of what the code has found
module _ (text from behind : List ℕ) (begins : from ≡ without_leading is_blank text) (ends : behind ≡ from_blank from) where
  moved : (P : List ℕ → List ℕ → Type 0) → P (without_leading is_blank text) (from_blank (without_leading is_blank text)) → P from behind
  moved P here = subst (P from) (sym ends) (subst (λ (f : List ℕ). P f (from_blank f)) (sym begins) here)

  pub fits : length behind ≤ length from
  fits = subst (λ (b : List ℕ). length b ≤ length from) (sym ends) (shorter (λ d. not (is_blank d)) from)

  pub has_words : words text ≡ filter is_nonempty (take (length from - length behind) from ∷ slice_split is_blank behind)
  has_words = moved (λ f b. words text ≡ filter is_nonempty (take (length f - length b) f ∷ slice_split is_blank b)) (one_more text)

  pub ends_text : length (take (length from - length behind) from) ≡ 0 → length behind ≡ 0
  ends_text = moved (λ f b. length (take (length f - length b) f) ≡ 0 → length b ≡ 0) (none_behind text)

  pub lies_within : length (take (length from - length behind) from) + length behind ≤ length text
  lies_within = moved (λ f b. length (take (length f - length b) f) + length b ≤ length text) (both_within text)
