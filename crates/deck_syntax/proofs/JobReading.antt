-- The lines behind a job's card: they are read exactly as they are spelled.
use Rattle.std.proofs.Common.{◌≡◌, ℕ, ◌+◌, ◌==◌, Bool, true, false, not, ◌&&◌, if◌then◌else◌, List, [], ◌∷◌, ◌++◌, length, length-append, Option, None, Some, refl, sym, ap, ◌∙◌, arith, true≢false}
use Rattle.std.proofs.lemmas.List.{append_assoc, append-nil}
use borrow.Author.Tests.{ne_eqb}
use Rattle.mon_text.specs.Lines.{words}
use Rattle.mon_catalogue.proofs.Blanks.{both}
use Rattle.deck_syntax.specs.{declared.job_deck.UnitCard.{UnitCard}, declared.job.OpenJob.{OpenJob}, Decks.{Cards, Enters}}
use Rattle.deck_syntax.specs.Jobs.{is_job_card_line, unit_card_refusal, unit_on, job_card_refusal, job_line_refusal, ends_job, after_job_line}
use Rattle.deck_syntax.specs.{inner.Parts.{program_text, has_begun, with_unit, with_program_line}, Sections.{Closed, InJob, asked_then, stream_section}}
use Rattle.deck_syntax.{specs.JobSpelling.{SpellsUnit, SpellsUnits, SpellsText, SpellsTexts}, proofs.Spelled.{neither, passes, taken_line, alone}}
use Rattle.deck_syntax.proofs.{JobLines.{GoesOn, line_text, text_taken, unit_taken, end_taken, unit_spelled}, Shorthand.{goes_on}}
use Rattle.deck_lines.specs.{declared.deck_error.DeckError.TheVariants.{BadCard, OutOfPlace}, declared.card.Card.{Card}, Cards.{card_among, is_card}}
use Rattle.deck_lines.specs.{Refusing.{unless, line_refusal, is_dollar_line}, CardLines.{IsLineWithin, IsCard}}
use Rattle.deck_lines.specs.declared.card.Card.TheVariants as card

-- a job with further unit cards, and with further lines
abbrev pub with_units : OpenJob → List UnitCard → OpenJob
with_units job ties = record job { ties = job.ties ++ ties }

abbrev pub with_texts : OpenJob → List (List ℕ) → OpenJob
with_texts job texts = record job { lines = job.lines ++ texts }

-- ---- lines that are spelled are read

module _ (job : OpenJob) (line : List ℕ) (lines : List (List ℕ)) (n : ℕ) where
  -- what a good line leads to, whether it ends the job or not
  abbrev leads_to : Bool → OpenJob → Cards
  leads_to ends after = if ends then asked_then (Enters job) (stream_section (n + 1) Closed lines) else stream_section (n + 1) (InJob after) lines

  goes : (after : OpenJob) → GoesOn job line after → stream_section n (InJob job) (line ∷ lines) ≡ stream_section (n + 1) (InJob after) lines
  goes after is =
      ap (λ r. goes_on r n (leads_to (ends_job line) (after_job_line job line))) is.good
      ∙ ap (λ (b : Bool). leads_to b (after_job_line job line)) is.stays_open
      ∙ ap (leads_to false) is.after_is

  ends : IsCard 200 card.EndJob [] line → is_dollar_line line ≡ true → stream_section n (InJob job) (line ∷ lines) ≡ asked_then (Enters job) (stream_section (n + 1) Closed lines)
  ends is at_once =
      let taken = end_taken job line is at_once in
      ap (λ r. goes_on r n (leads_to (ends_job line) (after_job_line job line))) taken.0
      ∙ ap (λ (b : Bool). leads_to b (after_job_line job line)) taken.1

texts_read : (program texts more : List (List ℕ)) (job : OpenJob) (n : ℕ) → SpellsTexts program texts → (m : ℕ) × (stream_section n (InJob job) (program ++ more) ≡ stream_section m (InJob (with_texts job texts)) more)
texts_read [] [] more job n are = (n, ap (λ (ls : List (List ℕ)). stream_section n (InJob (let j : OpenJob = record job { lines = ls } in j)) more) (sym (append-nil job.lines)))
texts_read [] (text ∷ texts) more job n are = absurd are
texts_read (line ∷ lines) [] more job n are = absurd are
texts_read (line ∷ lines) (text ∷ texts) more job n (is, are) =
    let rest = texts_read lines texts more (with_program_line job text) (n + 1) are in (
      rest.0,
      goes job line (lines ++ more) n (with_program_line job text) (text_taken job line text is)
          ∙ rest.1
          ∙ ap (λ (ls : List (List ℕ)). stream_section rest.0 (InJob (let j : OpenJob = record job { lines = ls } in j)) more) (append_assoc job.lines (text ∷ []) texts),
    )

units_read : (lines : List (List ℕ)) (ties : List UnitCard) (more : List (List ℕ)) (job : OpenJob) (n : ℕ) → has_begun job ≡ false → SpellsUnits lines ties
    → (m : ℕ) × (stream_section n (InJob job) (lines ++ more) ≡ stream_section m (InJob (with_units job ties)) more)
units_read [] [] more job n before are = (n, ap (λ (ts : List UnitCard). stream_section n (InJob (let j : OpenJob = record job { ties = ts } in j)) more) (sym (append-nil job.ties)))
units_read [] (tie ∷ ties) more job n before are = absurd are
units_read (line ∷ lines) [] more job n before are = absurd are
units_read (line ∷ lines) (tie ∷ ties) more job n before (is, are) =
    let rest = units_read lines ties more (with_unit job tie) (n + 1) before are in (
      rest.0,
      goes job line (lines ++ more) n (with_unit job tie) (unit_taken job line tie before is)
          ∙ rest.1
          ∙ ap (λ (ts : List UnitCard). stream_section rest.0 (InJob (let j : OpenJob = record job { ties = ts } in j)) more) (append_assoc job.ties (tie ∷ []) ties),
    )

pub all_read : (unit_lines program rest : List (List ℕ)) (end_card : List ℕ) (ties : List UnitCard) (texts : List (List ℕ)) (job : OpenJob) (n : ℕ) → has_begun job ≡ false
    → SpellsUnits unit_lines ties → SpellsTexts program texts → IsCard 200 card.EndJob [] end_card → is_dollar_line end_card ≡ true
    → (m : ℕ) × (stream_section n (InJob job) (unit_lines ++ (program ++ end_card ∷ rest)) ≡ asked_then (Enters (with_texts (with_units job ties) texts)) (stream_section m Closed rest))
all_read unit_lines program rest end_card ties texts job n before units_are program_is end_is at_once =
    let first = units_read unit_lines ties (program ++ end_card ∷ rest) job n before units_are in
    let second = texts_read program texts (end_card ∷ rest) (with_units job ties) first.0 program_is in
    (second.0 + 1, first.1 ∙ second.1 ∙ ends (with_texts (with_units job ties) texts) end_card rest second.0 end_is at_once)

-- ---- lines that are read are spelled

-- what a line does that is taken
pub data Took (job : OpenJob) (line : List ℕ) : Type 0 where
  Ends : IsCard 200 card.EndJob [] line → is_dollar_line line ≡ true → ends_job line ≡ true → Took job line
  Ties : has_begun job ≡ false → SpellsUnit line (unit_on (words line)) → ends_job line ≡ false → after_job_line job line ≡ with_unit job (unit_on (words line)) → Took job line
  Adds : SpellsText line (program_text line) → ends_job line ≡ false → after_job_line job line ≡ with_program_line job (program_text line) → Took job line

not_true : (b : Bool) → not b ≡ true → b ≡ false
not_true true h = absurd (true≢false (sym h))
not_true false h = refl

pub took : (job : OpenJob) (line : List ℕ) → job_line_refusal job line ≡ None → Took job line
took job line good =
    let two = neither (line_refusal 200 line) (if is_job_card_line line then job_card_refusal (card_among (words line)) (has_begun job) (words line) else None) good in
    by (is_job_card_line line) refl (taken_line 200 line two.0) two.1
  where
    at_once : is_job_card_line line ≡ true → is_dollar_line line ≡ true
    at_once e = let parts = both (is_dollar_line line) _ e in parts.0

    of_card : (o : Option Card) → card_among (words line) ≡ o → is_job_card_line line ≡ true → IsLineWithin 200 line
        → job_card_refusal o (has_begun job) (words line) ≡ None → Took job line
    of_card None e here within fine = cc
    of_card (Some card.Accounts) e here within fine = cc
    of_card (Some card.Catalogue) e here within fine = cc
    of_card (Some card.Set) e here within fine = cc
    of_card (Some card.Stream) e here within fine = cc
    of_card (Some card.Create) e here within fine = cc
    of_card (Some card.Delete) e here within fine = cc
    of_card (Some card.SetAcl) e here within fine = cc
    of_card (Some card.EndAcl) e here within fine = cc
    of_card (Some card.ShowAcl) e here within fine = cc
    of_card (Some card.List) e here within fine = cc
    of_card (Some card.Catalog) e here within fine = cc
    of_card (Some card.Job) e here within fine = cc
    of_card (Some card.Turn) e here within fine = cc
    of_card (Some card.Drain) e here within fine = cc
    of_card (Some card.Stop) e here within fine = cc
    of_card (Some card.EndJob) e here within fine =
        Ends (alone card.EndJob 200 line within e (passes (length (words line) == 1) BadCard fine)) (at_once here)
        (ap (λ (b : Bool). b && is_card card.EndJob (card_among (words line))) here ∙ ap (is_card card.EndJob) e)
    of_card (Some card.Tie) e here within fine =
        let two = neither (unless (not (has_begun job)) OutOfPlace) (unit_card_refusal (words line)) fine in
        Ties (not_true (has_begun job) (passes (not (has_begun job)) OutOfPlace two.0)) (unit_spelled line within (at_once here) e two.1)
        (ap (λ (b : Bool). b && is_card card.EndJob (card_among (words line))) here ∙ ap (is_card card.EndJob) e)
        (ap (λ (b : Bool). if b then with_unit job (unit_on (words line)) else with_program_line job (program_text line)) here)

    by : (b : Bool) → is_job_card_line line ≡ b → IsLineWithin 200 line → (if b then job_card_refusal (card_among (words line)) (has_begun job) (words line) else None) ≡ None → Took job line
    by true e within fine = of_card (card_among (words line)) refl e within fine
    by false e within fine =
        Adds (line_text line within e) (ap (λ (b : Bool). b && is_card card.EndJob (card_among (words line))) e)
        (ap (λ (b : Bool). if b then with_unit job (unit_on (words line)) else with_program_line job (program_text line)) e)

-- the lines of a job behind its card, and the job that it then is
pub record Job (job : OpenJob) (lines : List (List ℕ)) (whole : OpenJob) (rest : List (List ℕ)) : Type 0 where
  pub unit_lines : List (List ℕ)
  pub program : List (List ℕ)
  pub end_card : List ℕ
  pub ties : List UnitCard
  pub texts : List (List ℕ)
  pub are : lines ≡ unit_lines ++ (program ++ end_card ∷ rest)
  pub units_are : SpellsUnits unit_lines ties
  pub program_is : SpellsTexts program texts
  pub whole_is : with_texts (with_units job ties) texts ≡ whole
  pub ends : IsCard 200 card.EndJob [] end_card
  pub at_once : is_dollar_line end_card ≡ true
  -- behind the first line of the program there is no unit card
  pub settled : has_begun job ≡ true → (unit_lines ≡ []) × (ties ≡ [])

has_line : (job : OpenJob) (text : List ℕ) → has_begun (with_program_line job text) ≡ true
has_line job text = ap not (ne_eqb (length (job.lines ++ text ∷ [])) 0 (omega (arith, length-append job.lines (text ∷ []))))

pub ended : (job : OpenJob) (line : List ℕ) (rest : List (List ℕ)) → IsCard 200 card.EndJob [] line → is_dollar_line line ≡ true → Job job (line ∷ rest) job rest
ended job line rest is at_once = record {
  unit_lines = [];
  program = [];
  end_card = line;
  ties = [];
  texts = [];
  are = refl;
  units_are = tt;
  program_is = tt;
  whole_is = ap (λ (ts : List UnitCard). let j : OpenJob = record job { ties = ts; lines = job.lines ++ [] } in j) (append-nil job.ties)
      ∙ ap (λ (ls : List (List ℕ)). let j : OpenJob = record job { lines = ls } in j) (append-nil job.lines);
  ends = is;
  at_once = at_once;
  settled = λ _. (refl, refl);
}

pub tied : (job whole : OpenJob) (line : List ℕ) (tie : UnitCard) (lines rest : List (List ℕ)) → has_begun job ≡ false → SpellsUnit line tie → Job (with_unit job tie) lines whole rest
    → Job job (line ∷ lines) whole rest
tied job whole line tie lines rest before is j = record {
  unit_lines = line ∷ j.unit_lines;
  program = j.program;
  end_card = j.end_card;
  ties = tie ∷ j.ties;
  texts = j.texts;
  are = ap (λ (ls : List (List ℕ)). line ∷ ls) j.are;
  units_are = (is, j.units_are);
  program_is = j.program_is;
  whole_is = ap (λ (ts : List UnitCard). let k : OpenJob = record job { ties = ts; lines = job.lines ++ j.texts } in k) (sym (append_assoc job.ties (tie ∷ []) j.ties)) ∙ j.whole_is;
  ends = j.ends;
  at_once = j.at_once;
  settled = λ begun. absurd (true≢false (sym begun ∙ before));
}

pub added : (job whole : OpenJob) (line text : List ℕ) (lines rest : List (List ℕ)) → SpellsText line text → Job (with_program_line job text) lines whole rest → Job job (line ∷ lines) whole rest
added job whole line text lines rest is j =
    let none = j.settled (has_line job text) in
    record {
      unit_lines = [];
      program = line ∷ j.program;
      end_card = j.end_card;
      ties = [];
      texts = text ∷ j.texts;
      are = ap (λ (ls : List (List ℕ)). line ∷ ls) (j.are ∙ ap (λ (us : List (List ℕ)). us ++ (j.program ++ j.end_card ∷ rest)) none.0);
      units_are = tt;
      program_is = (is, j.program_is);
      whole_is = ap (λ (ls : List (List ℕ)). let k : OpenJob = record job { ties = job.ties ++ []; lines = ls } in k) (sym (append_assoc job.lines (text ∷ []) j.texts))
          ∙ ap (λ (ts : List UnitCard). let k : OpenJob = record job { ties = job.ties ++ ts; lines = (job.lines ++ text ∷ []) ++ j.texts } in k) (sym none.1)
          ∙ j.whole_is;
      ends = j.ends;
      at_once = j.at_once;
      settled = λ _. (refl, refl);
    }
