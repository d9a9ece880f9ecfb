-- A card that lists records, by its words.
use Rattle.std.proofs.Common.{◌≡◌, ℕ, suc, ◌-◌, ◌≤◌, nat_lt, Bool, true, false, not, ◌&&◌, if◌then◌else◌, filter, List, [], ◌∷◌, ◌++◌, length, take, drop, refl, sym, ap, subst, ◌∙◌, arith, length-append, Some, None, Option}
use Rattle.std.specs.{Prelude.{codes}, List.{list_all, slice_split, onto_first}, Option.{option_or}}
use Rattle.std.proofs.lemmas.{Bool.Decides.{nat_tests}, List.{take_all}, List.Splits.{slice_split-cons_no, slice_split-cons_yes}, List.Folds.{list_all-append}}
use Rattle.mon_text.specs.{Beginnings.{without_leading}, Characters.{is_blank, is_printable}, Lines.{is_line, is_nonempty, words}}
use Rattle.mon_text.specs.Names.{is_name, is_name_character}
use Rattle.deck_lines.specs.declared.command.Command.TheVariants as command
use Rattle.deck_lines.specs.declared.deck_error.DeckError.{DeckError, TheVariants.{BadName, BadCharacter, LineTooLong}}
use Rattle.deck_lines.specs.{Cards.{card_among}, Refusing.{unless, line_refusal}}
use Rattle.deck_syntax.specs.{declared.request.Request.TheVariants.{Asks}, Requests.{stream_card_refusal, stream_refusal, card_request, request_on}}
use Rattle.deck_syntax.specs.inner.Listed.{Lists}

abbrev from_blank : List ℕ → List ℕ
from_blank text = without_leading (λ c. not (is_blank c)) text

both : (a b : Bool) → (a && b) ≡ true → (a ≡ true) × (b ≡ true)
both true true e = (refl, refl)
both true false e = cc
both false b e = cc

inside : (c : ℕ) → not (is_blank c) ≡ true → is_blank c ≡ false
inside c e = by (is_blank c) refl
  where
    by : (b : Bool) → is_blank c ≡ b → is_blank c ≡ false
    by true is = let no : false ≡ true = sym (ap not is) ∙ e in cc
    by false is = is

shorter : (text : List ℕ) → length (from_blank text) ≤ length text
shorter [] = omega arith
shorter (c ∷ cs) = by (is_blank c) (shorter cs)
  where
    by : (b : Bool) → length (from_blank cs) ≤ length cs → length (if not b then from_blank cs else c ∷ cs) ≤ length (c ∷ cs)
    by true less = omega arith
    by false less = omega (arith, less)

-- a text is cut before its first blank
cut : (text : List ℕ) → text ≡ take (length text - length (from_blank text)) text ++ from_blank text
cut [] = refl
cut (c ∷ cs) = by (is_blank c) (cut cs)
  where
    by : (b : Bool) → cs ≡ take (length cs - length (from_blank cs)) cs ++ from_blank cs
        → c ∷ cs ≡ take (length (c ∷ cs) - length (if not b then from_blank cs else c ∷ cs)) (c ∷ cs) ++ (if not b then from_blank cs else c ∷ cs)
    by true rest =
        let none : 0 ≡ length (c ∷ cs) - length (c ∷ cs) = omega arith in
        ap (λ (n : ℕ). take n (c ∷ cs) ++ (c ∷ cs)) none
    by false rest =
        let less = shorter cs in
        let one : suc (length cs - length (from_blank cs)) ≡ length (c ∷ cs) - length (from_blank cs) = omega (arith, less) in
        ap (λ (v : List ℕ). c ∷ v) rest ∙ ap (λ (n : ℕ). take n (c ∷ cs) ++ from_blank cs) one

is_32 : (c : ℕ) → is_blank c ≡ true → c ≡ 32
is_32 c e = grind (arith, nat_tests, e)

begins : (text : List ℕ) (c : ℕ) (rest : List ℕ) → from_blank text ≡ c ∷ rest → c ≡ 32
begins [] c rest e = let no : 0 ≡ suc (length rest) = ap length e in absurd (omega (arith, no))
begins (x ∷ xs) c rest e = by (is_blank x) refl e (begins xs c rest)
  where
    by : (b : Bool) → is_blank x ≡ b → (if not b then from_blank xs else x ∷ xs) ≡ c ∷ rest → (from_blank xs ≡ c ∷ rest → c ≡ 32) → c ≡ 32
    by true is same later = let first : x ≡ c = cc in sym first ∙ is_32 x is
    by false is same later = later same

-- what stands from the first blank on is no longer
pub fits : (ws behind : List ℕ) → behind ≡ from_blank ws → length behind ≤ length ws
fits ws behind cuts = subst (λ (b : List ℕ). length b ≤ length ws) (sym cuts) (shorter ws)

-- the words of such a card
pub parted : (text ws behind : List ℕ) → text ≡ codes "$LIST" ++ 32 ∷ ws → behind ≡ from_blank ws → 1 ≤ length behind
    → Lists text (take (length ws - length behind) ws) (take (length behind - 1) (drop 1 behind))
parted text ws [] is cuts some = absurd (omega (arith, some))
parted text ws (c ∷ name) is cuts some =
    let behind = c ∷ name in
    let blank : c ≡ 32 = begins ws c name (sym cuts) in
    let all : take (length behind - 1) name ≡ name = take_all (length behind - 1) name (omega arith) in
    let whole : ws ≡ take (length ws - length behind) ws ++ 32 ∷ take (length behind - 1) name =
    cut ws ∙ ap (λ (b : List ℕ). take (length ws - length b) ws ++ b) (sym cuts)
    ∙ ap (λ (d : ℕ). take (length ws - length behind) ws ++ d ∷ name) blank
    ∙ ap (λ (v : List ℕ). take (length ws - length behind) ws ++ 32 ∷ v) (sym all) in
    is ∙ ap (λ (w : List ℕ). codes "$LIST" ++ 32 ∷ w) whole

-- names have neither blanks nor other characters than a line may have
letter : (c : ℕ) → is_name_character c ≡ true → (not (is_blank c) ≡ true) × (is_printable c ≡ true)
letter c e = (grind (arith, nat_tests, e), grind (arith, nat_tests, e))

letters : (a : List ℕ) → list_all is_name_character a ≡ true → (list_all (λ c. not (is_blank c)) a ≡ true) × (is_line a ≡ true)
letters [] e = (refl, refl)
letters (c ∷ cs) e =
    let es = both (is_name_character c) (list_all is_name_character cs) e in
    let one = letter c es.0 in
    let more = letters cs es.1 in
    (ap (λ b. b && list_all (λ d. not (is_blank d)) cs) one.0 ∙ more.0, ap (λ b. b && is_line cs) one.1 ∙ more.1)

record Named (a : List ℕ) : Type 0 where
  unbroken : list_all (λ c. not (is_blank c)) a ≡ true
  line : is_line a ≡ true
  some : is_nonempty a ≡ true
  short : length a ≤ 31

named : (a : List ℕ) → is_name a ≡ true → Named a
named [] e = cc
named (c ∷ cs) e =
    let first : (is_name_character c ≡ true) = grind (arith, nat_tests, e) in
    let others : (list_all is_name_character cs ≡ true) = grind (arith, nat_tests, e) in
    let all = letters (c ∷ cs) (ap (λ b. b && list_all is_name_character cs) first ∙ others) in
    record {
      unbroken = all.0;
      line = all.1;
      some = grind (arith, nat_tests);
      short = grind (arith, nat_tests, e);
    }

-- a word without blanks, before a blank and at the end
before : (a rest : List ℕ) → list_all (λ c. not (is_blank c)) a ≡ true → slice_split is_blank (a ++ 32 ∷ rest) ≡ a ∷ slice_split is_blank rest
before [] rest e = slice_split-cons_yes is_blank 32 rest refl
before (c ∷ a) rest e =
    let es = both (not (is_blank c)) (list_all (λ d. not (is_blank d)) a) e in
    slice_split-cons_no is_blank c (a ++ 32 ∷ rest) (inside c es.0) ∙ ap (onto_first c) (before a rest es.1)

at_end : (a : List ℕ) → list_all (λ c. not (is_blank c)) a ≡ true → slice_split is_blank a ≡ a ∷ []
at_end [] e = refl
at_end (c ∷ a) e =
    let es = both (not (is_blank c)) (list_all (λ d. not (is_blank d)) a) e in
    slice_split-cons_no is_blank c a (inside c es.0) ∙ ap (onto_first c) (at_end a es.1)

three : (a b : List ℕ) → is_nonempty a ≡ true → is_nonempty b ≡ true → filter is_nonempty (codes "$LIST" ∷ a ∷ b ∷ []) ≡ codes "$LIST" ∷ a ∷ b ∷ []
three a b first second =
    ap (λ x. codes "$LIST" ∷ (if x then a ∷ filter is_nonempty (b ∷ []) else filter is_nonempty (b ∷ []))) first
    ∙ ap (λ x. codes "$LIST" ∷ a ∷ (if x then b ∷ [] else [])) second

card_words : (a b : List ℕ) → Named a → Named b → words (codes "$LIST" ++ 32 ∷ (a ++ 32 ∷ b)) ≡ codes "$LIST" ∷ a ∷ b ∷ []
card_words a b first second =
    ap (filter is_nonempty) (before (codes "$LIST") (a ++ 32 ∷ b) refl
    ∙ ap (λ (ps : List (List ℕ)). codes "$LIST" ∷ ps) (before a b first.unbroken ∙ ap (λ (ps : List (List ℕ)). a ∷ ps) (at_end b second.unbroken)))
    ∙ three a b first.some second.some

card_line : (a b : List ℕ) → Named a → Named b → is_line (codes "$LIST" ++ 32 ∷ (a ++ 32 ∷ b)) ≡ true
card_line a b first second =
    list_all-append is_printable a (32 ∷ b) ∙ ap (λ x. x && is_line b) first.line ∙ second.line

card_short : (a b : List ℕ) → Named a → Named b → nat_lt 200 (length (codes "$LIST" ++ 32 ∷ (a ++ 32 ∷ b))) ≡ false
card_short a b first second =
    let all : length (codes "$LIST" ++ 32 ∷ (a ++ 32 ∷ b)) ≤ 200 = omega (arith, length-append a (32 ∷ b), first.short, second.short) in
    grind (arith, nat_tests, all)

-- such a card is not refused
line_good : (a b : List ℕ) → Named a → Named b → line_refusal 200 (codes "$LIST" ++ 32 ∷ (a ++ 32 ∷ b)) ≡ None
line_good a b first second =
    let w = codes "$LIST" ++ 32 ∷ (a ++ 32 ∷ b) in
    ap (λ x. if x then Some LineTooLong else unless (is_line w) BadCharacter) (card_short a b first second)
    ∙ ap (λ x. unless x BadCharacter) (card_line a b first second)

card_good : (a b : List ℕ) → is_name a ≡ true → is_name b ≡ true → stream_refusal (codes "$LIST" ++ 32 ∷ (a ++ 32 ∷ b)) ≡ None
card_good a b na nb =
    ap (λ (ws : List (List ℕ)). stream_card_refusal (card_among ws) ws) (card_words a b (named a na) (named b nb))
    ∙ ap (λ x. unless (x && is_name b) BadName) na
    ∙ ap (λ x. unless x BadName) nb

pub asks_well : (text a b : List ℕ) → Lists text a b → is_name a ≡ true → is_name b ≡ true → option_or (line_refusal 200 text) (stream_refusal text) ≡ None
asks_well text a b is na nb =
    let w = codes "$LIST" ++ 32 ∷ (a ++ 32 ∷ b) in
    ap (λ (t : List ℕ). option_or (line_refusal 200 t) (stream_refusal t)) is
    ∙ ap (λ (r : Option DeckError). option_or r (stream_refusal w)) (line_good a b (named a na) (named b nb))
    ∙ card_good a b na nb

-- and asks for the records
pub asks_so : (text a b account name : List ℕ) → Lists text a b → account ≡ a → is_name a ≡ true → name ≡ b → is_name b ≡ true → Asks (command.List account name) ≡ request_on text
asks_so text a b account name is account_is na name_is nb =
    let w = codes "$LIST" ++ 32 ∷ (a ++ 32 ∷ b) in
    ap (λ (v : List ℕ). Asks (command.List v name)) account_is
    ∙ ap (λ (v : List ℕ). Asks (command.List a v)) name_is
    ∙ sym (ap (λ (ws : List (List ℕ)). card_request (card_among ws) w ws) (card_words a b (named a na) (named b nb)))
    ∙ sym (ap request_on is)
