-- Lines where a job is open: as they are taken, and as they are spelled.
use Rattle.std.proofs.Common.{◌≡◌, ℕ, suc, ◌==◌, Bool, true, false, cond, not, ◌&&◌, if◌then◌else◌, List, [], ◌∷◌, length, drop, filter, Option, None, Some, refl, sym, ap, subst, ◌∙◌, arith, true≢false}
use Rattle.std.{specs.List.{slice_split, onto_first}, proofs.lemmas.List.Splits.{slice_split-cons_no, length-slice_split}, specs.Option.{option_or}}
use borrow.Author.Tests.{eqb-true, ne_eqb}
use Rattle.mon_text.specs.{Characters.{is_blank}, Names.{is_name}, Counts.{is_count}, Lines.{is_nonempty, words}}
use Rattle.deck_syntax.specs.{declared.job_deck.UnitCard.{UnitCard}, declared.job.OpenJob.{OpenJob}, JobSpelling.{SpellsUnit, SpellsText}}
use Rattle.deck_syntax.specs.Jobs.{is_job_card_line, unit_card_refusal, unit_on, job_card_refusal, job_line_refusal, ends_job, after_job_line}
use Rattle.deck_syntax.{specs.inner.Parts.{program_text, has_begun, with_unit, with_program_line}, proofs.Spelled.{both_hold, neither, passes, line_taken}}
use Rattle.deck_lines.specs.declared.{deck_error.DeckError.TheVariants.{BadName, BadNumber, BadCard, OutOfPlace}, card.Card.{Card}}
use Rattle.deck_lines.specs.{Cards.{card_among, is_card, word_at}, Refusing.{unless, line_refusal, is_dollar_line}, CardLines.{IsLineWithin, IsCard}}
use Rattle.deck_lines.specs.declared.card.Card.TheVariants as card

-- ---- words

pub card_named : (due : Card) (others : List (List ℕ)) (line : List ℕ) → IsCard 200 due others line → card_among (words line) ≡ Some due
card_named due others line is = ap card_among is.words_are ∙ is.names_it

-- the two words behind the first
pub record TwoMore (others : List (List ℕ)) : Type 0 where
  pub first : List ℕ
  pub second : List ℕ
  pub are : others ≡ first ∷ second ∷ []

pub three_words : (word : List ℕ) (others : List (List ℕ)) → (length (word ∷ others) == 3) ≡ true → TwoMore others
three_words word [] h = absurd (true≢false (sym h))
three_words word (a ∷ []) h = absurd (true≢false (sym h))
three_words word (a ∷ b ∷ []) h = record { first = a; second = b; are = refl }
three_words word (a ∷ b ∷ c ∷ ws) h = absurd (true≢false (sym h ∙ ne_eqb (suc (suc (suc (suc (length ws))))) 3 (omega arith)))

-- ---- dollar signs

abbrev TwoDollars : List (List ℕ) → Type 0
TwoDollars ws = (rest : List ℕ) × (others : List (List ℕ)) × (ws ≡ (36 ∷ 36 ∷ rest) ∷ others)

two_dollars : (cs : List ℕ) → is_dollar_line cs ≡ true → TwoDollars (words (36 ∷ cs))
two_dollars [] h = absurd (true≢false (sym h))
two_dollars (d ∷ ds) h = subst (λ (x : ℕ). TwoDollars (words (36 ∷ x ∷ ds))) (sym (eqb-true d 36 h)) (by (slice_split is_blank ds) refl)
  where
    by : (parts : List (List ℕ)) → slice_split is_blank ds ≡ parts → TwoDollars (words (36 ∷ 36 ∷ ds))
    by [] e = absurd (omega (arith, length-slice_split is_blank ds, ap length e))
    by (first ∷ others) e = (
      first,
      filter is_nonempty others,
      ap (filter is_nonempty) (slice_split-cons_no is_blank 36 (36 ∷ ds) refl ∙ ap (onto_first 36) (slice_split-cons_no is_blank 36 ds refl ∙ ap (onto_first 36) e))
          ∙ ap (λ (b : Bool). cond b ((36 ∷ 36 ∷ first) ∷ filter is_nonempty others) (filter is_nonempty others)) (ap not (ne_eqb (suc (suc (length first))) 0 (omega arith))),
    )

-- no card begins with two
no_second : (line : List ℕ) (due : Card) → card_among (words line) ≡ Some due → is_dollar_line line ≡ true → is_dollar_line (drop 1 line) ≡ false
no_second [] due is h = absurd (true≢false (sym h))
no_second (c ∷ cs) due is h = by (is_dollar_line cs) refl
  where
    by : (b : Bool) → is_dollar_line cs ≡ b → b ≡ false
    by false e = refl
    by true e =
        let two = two_dollars cs e in
        let here : words (c ∷ cs) ≡ words (36 ∷ cs) = ap (λ (x : ℕ). words (x ∷ cs)) (eqb-true c 36 h) in
        let none : None ≡ Some due = sym (ap card_among (here ∙ two.2)) ∙ is in
        cc

pub card_line : (line : List ℕ) (due : Card) → card_among (words line) ≡ Some due → is_dollar_line line ≡ true → is_job_card_line line ≡ true
card_line line due is h = both_hold (is_dollar_line line) (not (is_dollar_line (drop 1 line))) h (ap not (no_second line due is h))

-- ---- a text of the program

pub text_line : (line text : List ℕ) → line ≡ (if is_dollar_line text then 36 ∷ text else text) → (is_job_card_line line ≡ false) × (program_text line ≡ text)
text_line line text is = by (is_dollar_line text) refl is
  where
    by : (b : Bool) → is_dollar_line text ≡ b → line ≡ (if b then 36 ∷ text else text) → (is_job_card_line line ≡ false) × (program_text line ≡ text)
    by true e is = (ap is_job_card_line is ∙ ap not e, ap program_text is)
    by false e is = (
      ap is_job_card_line is ∙ ap (λ (b : Bool). b && not (is_dollar_line (drop 1 text))) e,
      ap program_text is ∙ ap (λ (b : Bool). if b then drop 1 text else text) e,
    )

pub line_text : (line : List ℕ) → IsLineWithin 200 line → is_job_card_line line ≡ false → SpellsText line (program_text line)
line_text line within h = (within, by (is_dollar_line line) refl h)
  where
    one_more : (line : List ℕ) → is_dollar_line line ≡ true → line ≡ 36 ∷ drop 1 line
    one_more [] e = absurd (true≢false (sym e))
    one_more (c ∷ cs) e = ap (λ (x : ℕ). x ∷ cs) (eqb-true c 36 e)

    second : (b : Bool) → not b ≡ false → b ≡ true
    second true h = refl
    second false h = absurd (true≢false h)

    by : (b : Bool) → is_dollar_line line ≡ b → (b && not (is_dollar_line (drop 1 line))) ≡ false
        → line ≡ (if is_dollar_line (program_text line) then 36 ∷ program_text line else program_text line)
    by true e h =
        let text : program_text line ≡ drop 1 line = ap (λ (b : Bool). if b then drop 1 line else line) e in
        one_more line e
        ∙ ap (λ (b : Bool). if b then 36 ∷ drop 1 line else drop 1 line) (sym (second (is_dollar_line (drop 1 line)) h))
        ∙ ap (λ (t : List ℕ). if is_dollar_line t then 36 ∷ t else t) (sym text)
    by false e h =
        let text : program_text line ≡ line = ap (λ (b : Bool). if b then drop 1 line else line) e in
        ap (λ (b : Bool). if b then 36 ∷ line else line) (sym e)
        ∙ ap (λ (t : List ℕ). if is_dollar_line t then 36 ∷ t else t) (sym text)

-- ---- what lines do to a job

-- a line that is taken, and goes on with this job
pub record GoesOn (job : OpenJob) (line : List ℕ) (after : OpenJob) : Type 0 where
  pub good : job_line_refusal job line ≡ None
  pub stays_open : ends_job line ≡ false
  pub after_is : after_job_line job line ≡ after

module _ (job : OpenJob) (line : List ℕ) where
  card_refused : line_refusal 200 line ≡ None → is_job_card_line line ≡ true
      → job_line_refusal job line ≡ job_card_refusal (card_among (words line)) (has_begun job) (words line)
  card_refused good here =
      ap (λ r. option_or r (if is_job_card_line line then job_card_refusal (card_among (words line)) (has_begun job) (words line) else None)) good
      ∙ ap (λ (b : Bool). if b then job_card_refusal (card_among (words line)) (has_begun job) (words line) else None) here

  pub text_taken : (text : List ℕ) → SpellsText line text → GoesOn job line (with_program_line job text)
  text_taken text (within, is) =
      let plain = text_line line text is in
      record {
        good = ap (λ r. option_or r (if is_job_card_line line then job_card_refusal (card_among (words line)) (has_begun job) (words line) else None)) (line_taken 200 line within)
            ∙ ap (λ (b : Bool). if b then job_card_refusal (card_among (words line)) (has_begun job) (words line) else None) plain.0;
        stays_open = ap (λ (b : Bool). b && is_card card.EndJob (card_among (words line))) plain.0;
        after_is = ap (λ (b : Bool). if b then with_unit job (unit_on (words line)) else with_program_line job (program_text line)) plain.0
            ∙ ap (λ (t : List ℕ). with_program_line job t) plain.1;
      }

  pub unit_taken : (tie : UnitCard) → has_begun job ≡ false → SpellsUnit line tie → GoesOn job line (with_unit job tie)
  unit_taken tie before is =
      let named_it = card_named card.Tie (is.number ∷ tie.set ∷ []) line is.card_is in
      let here = card_line line card.Tie named_it is.at_once in
      record {
        good = card_refused (line_taken 200 line is.card_is.line_is) here
            ∙ ap (λ (o : Option Card). job_card_refusal o (has_begun job) (words line)) named_it
            ∙ ap (λ (b : Bool). option_or (unless (not b) OutOfPlace) (unit_card_refusal (words line))) before
            ∙ ap unit_card_refusal is.card_is.words_are
            ∙ ap (λ (b : Bool). option_or (unless b BadNumber) (unless (is_name tie.set) BadName)) is.count
            ∙ ap (λ (b : Bool). unless b BadName) is.set_is;
        stays_open = both_false (is_job_card_line line) (is_card card.EndJob (card_among (words line))) (ap (is_card card.EndJob) named_it);
        after_is = ap (λ (b : Bool). if b then with_unit job (unit_on (words line)) else with_program_line job (program_text line)) here
            ∙ ap (λ (ws : List (List ℕ)). with_unit job (unit_on ws)) is.card_is.words_are
            ∙ ap (λ (n : ℕ). with_unit job (let u : UnitCard = record { unit = n; set = tie.set } in u)) (sym is.unit_is);
      }
    where
      both_false : (a b : Bool) → b ≡ false → (a && b) ≡ false
      both_false true b h = h
      both_false false b h = refl

  pub end_taken : IsCard 200 card.EndJob [] line → is_dollar_line line ≡ true → (job_line_refusal job line ≡ None) × (ends_job line ≡ true)
  end_taken is at_once =
      let named_it = card_named card.EndJob [] line is in
      let here = card_line line card.EndJob named_it at_once in (
        card_refused (line_taken 200 line is.line_is) here
            ∙ ap (λ (o : Option Card). job_card_refusal o (has_begun job) (words line)) named_it
            ∙ ap (λ (ws : List (List ℕ)). unless (length ws == 1) BadCard) is.words_are,
        both_hold (is_job_card_line line) (is_card card.EndJob (card_among (words line))) here (ap (is_card card.EndJob) named_it),
      )

-- a good unit card is spelled
pub unit_spelled : (line : List ℕ) → IsLineWithin 200 line → is_dollar_line line ≡ true → card_among (words line) ≡ Some card.Tie → unit_card_refusal (words line) ≡ None
    → SpellsUnit line (unit_on (words line))
unit_spelled line within at_once is fine = by (words line) refl is fine
  where
    by : (ws : List (List ℕ)) → words line ≡ ws → card_among ws ≡ Some card.Tie → unit_card_refusal ws ≡ None → SpellsUnit line (unit_on (words line))
    by [] e is fine = cc
    by (word ∷ others) e is fine =
        let two = neither (unless (length (word ∷ others) == 3) BadCard) _ fine in
        let more = three_words word others (passes (length (word ∷ others) == 3) BadCard two.0) in
        let all : words line ≡ word ∷ more.first ∷ more.second ∷ [] = e ∙ ap (λ (os : List (List ℕ)). word ∷ os) more.are in
        let rest : option_or (unless (is_count more.first) BadNumber) (unless (is_name more.second) BadName) ≡ None =
        sym (ap (λ (os : List (List ℕ)). option_or (unless (is_count (word_at 1 (word ∷ os))) BadNumber) (unless (is_name (word_at 2 (word ∷ os))) BadName)) more.are) ∙ two.1 in
        let parts = neither (unless (is_count more.first) BadNumber) (unless (is_name more.second) BadName) rest in
        subst (SpellsUnit line) (ap unit_on (sym all)) (
        record {
          number = more.first;
          card_is = record { word = word; line_is = within; words_are = all; names_it = is };
          at_once = at_once;
          count = passes (is_count more.first) BadNumber parts.0;
          unit_is = refl;
          set_is = passes (is_name more.second) BadName parts.1;
        }
        )
