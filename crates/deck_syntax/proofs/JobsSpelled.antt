-- The cards of jobs and of turns: they ask for what they spell, and spell what they ask for.
use Rattle.std.proofs.Common.{◌≡◌, ℕ, suc, ◌==◌, nat_lt, Bool, true, ◌&&◌, List, [], ◌∷◌, ◌++◌, length, None, Some, refl, sym, ap, subst, ◌∙◌, arith}
use Rattle.std.{proofs.lemmas.List.{append_assoc}, specs.Option.{option_or}}
use borrow.Author.Tests.{lt-ltb}
use Rattle.mon_text.specs.{Names.{is_name}, Counts.{is_count, value_of}, Lines.{words}}
use Rattle.mon_catalogue.proofs.Blanks.{both}
use Rattle.sno_cards.specs.declared.limits.Limits.{Limits}
use Rattle.deck_lines.specs.declared.card.Card.TheVariants as card
use Rattle.deck_lines.specs.{declared.deck_error.DeckError.TheVariants.{BadName, BadNumber, BadCard}, declared.turn.Turn.{Turn}, Cards.{card_among}}
use Rattle.deck_lines.specs.{CardLines.{IsLineWithin, IsCard}, Refusing.{unless}, Turns.{is_within, turn_refusal, turn_on}}
use Rattle.deck_syntax.specs.{declared.job.OpenJob.{OpenJob}, Jobs.{are_options, limits_refusal, job_refusal, job_on}, inner.Parts.{opened_job}}
use Rattle.deck_syntax.{specs.JobSpelling.{SpellsLimits, SpellsUnits, SpellsTexts, SpellsJob, SpellsTurn}, proofs.Spelled.{both_hold, neither, passes}}
use Rattle.deck_syntax.proofs.{LimitsRead.{within_is, is_within_then, limits_read, limits_spelled}, JobLines.{three_words}, JobReading.{Job}}

-- ---- `$JOB`

module _ (word account : List ℕ) (options : List (List ℕ)) (limits : Limits) (name : is_name account ≡ true) (spelled : SpellsLimits options limits) where
  pub job_fine : job_refusal (word ∷ account ∷ options) ≡ None
  job_fine =
      let read = limits_read options limits spelled in
      ap (λ (b : Bool). option_or (unless (b && are_options options) BadCard) (option_or (unless (is_name account) BadName) (limits_refusal options))) (lt-ltb 1 (suc (suc (length options))) (omega arith))
      ∙ ap (λ (b : Bool). option_or (unless b BadCard) (option_or (unless (is_name account) BadName) (limits_refusal options))) read.are
      ∙ ap (λ (b : Bool). option_or (unless b BadName) (limits_refusal options)) name
      ∙ read.fine

  pub job_asked : job_on (word ∷ account ∷ options) ≡ opened_job account limits
  job_asked = let read = limits_read options limits spelled in ap (opened_job account) read.limits_are

-- the card of a job that is opened
pub record Opened (line : List ℕ) (job : OpenJob) : Type 0 where
  pub options : List (List ℕ)
  pub card_is : IsCard 200 card.Job (job.account ∷ options) line
  pub account_is : is_name job.account ≡ true
  pub limits_are : SpellsLimits options job.limits
  pub fresh : job ≡ opened_job job.account job.limits

pub job_opened : (line : List ℕ) → IsLineWithin 200 line → card_among (words line) ≡ Some card.Job → job_refusal (words line) ≡ None → Opened line (job_on (words line))
job_opened line within is fine = by (words line) refl is fine
  where
    by : (ws : List (List ℕ)) → words line ≡ ws → card_among ws ≡ Some card.Job → job_refusal ws ≡ None → Opened line (job_on ws)
    by [] e is fine = cc
    by (word ∷ []) e is fine = cc
    by (word ∷ account ∷ options) e is fine =
        let two = neither (unless (nat_lt 1 (length (word ∷ account ∷ options)) && are_options options) BadCard) _ fine in
        let more = neither (unless (is_name account) BadName) (limits_refusal options) two.1 in
        let good = both (nat_lt 1 (length (word ∷ account ∷ options))) (are_options options) (passes _ BadCard two.0) in
        record {
          options = options;
          card_is = record { word = word; line_is = within; words_are = e; names_it = is };
          account_is = passes (is_name account) BadName more.0;
          limits_are = limits_spelled options good.1 more.1;
          fresh = refl;
        }

-- ---- jobs

pub record Spelled (line : List ℕ) (lines : List (List ℕ)) (job : OpenJob) (rest : List (List ℕ)) : Type 0 where
  pub more : List (List ℕ)
  pub are : lines ≡ more ++ rest
  pub is : SpellsJob line more job

-- a card, and the lines behind it
pub job_spelled : (line : List ℕ) (lines : List (List ℕ)) (first job : OpenJob) (rest : List (List ℕ)) → Opened line first → Job first lines job rest → Spelled line lines job rest
job_spelled line lines first job rest o j =
    let whole : (let k : OpenJob = record { account = first.account; limits = first.limits; ties = j.ties; lines = j.texts } in k) ≡ job =
    ap (λ (k : OpenJob). let l : OpenJob = record k { ties = k.ties ++ j.ties; lines = k.lines ++ j.texts } in l) (sym o.fresh) ∙ j.whole_is in
    let account : first.account ≡ job.account = ap (λ (k : OpenJob). k.account) whole in
    let limits : first.limits ≡ job.limits = ap (λ (k : OpenJob). k.limits) whole in
    let ties : j.ties ≡ job.ties = ap (λ (k : OpenJob). k.ties) whole in
    let texts : j.texts ≡ job.lines = ap (λ (k : OpenJob). k.lines) whole in
    record {
      more = j.unit_lines ++ (j.program ++ j.end_card ∷ []);
      are = j.are
          ∙ ap (λ (ls : List (List ℕ)). j.unit_lines ++ ls) (sym (append_assoc j.program (j.end_card ∷ []) rest))
          ∙ sym (append_assoc j.unit_lines (j.program ++ j.end_card ∷ []) rest);
      is = record {
        options = o.options;
        unit_lines = j.unit_lines;
        program = j.program;
        end_card = j.end_card;
        card_is = subst (λ (a : List ℕ). IsCard 200 card.Job (a ∷ o.options) line) account o.card_is;
        account_is = ap is_name (sym account) ∙ o.account_is;
        limits_are = subst (SpellsLimits o.options) limits o.limits_are;
        lines_are = refl;
        units_are = subst (SpellsUnits j.unit_lines) ties j.units_are;
        program_is = subst (SpellsTexts j.program) texts j.program_is;
        ends = j.ends;
        at_once = j.at_once;
      };
    }

-- ---- turns

module _ (word line : List ℕ) (turn : Turn) (is : SpellsTurn line turn) where
  pub turn_fine : turn_refusal (word ∷ is.slot ∷ is.count ∷ []) ≡ None
  turn_fine =
      let slot_within : is_within 8 (value_of is.slot) ≡ true = ap (is_within 8) (sym is.slot_is) ∙ within_is 8 turn.slot is.slot_within.0 is.slot_within.1 in
      let count_within : is_within 1000000 (value_of is.count) ≡ true = ap (is_within 1000000) (sym is.count_is) ∙ within_is 1000000 turn.count is.count_within.0 is.count_within.1 in
      ap (λ (b : Bool). option_or (unless b BadNumber) (unless (is_within 8 (value_of is.slot) && is_within 1000000 (value_of is.count)) BadCard)) (both_hold (is_count is.slot) (is_count is.count) is.counts.0 is.counts.1)
      ∙ ap (λ (b : Bool). unless b BadCard) (both_hold (is_within 8 (value_of is.slot)) (is_within 1000000 (value_of is.count)) slot_within count_within)

  pub turn_asked : turn_on (word ∷ is.slot ∷ is.count ∷ []) ≡ turn
  turn_asked =
      ap (λ (n : ℕ). let t : Turn = record { slot = n; count = value_of is.count } in t) (sym is.slot_is)
      ∙ ap (λ (n : ℕ). let t : Turn = record { slot = turn.slot; count = n } in t) (sym is.count_is)

pub turn_spelled : (line : List ℕ) → IsLineWithin 200 line → card_among (words line) ≡ Some card.Turn → turn_refusal (words line) ≡ None → SpellsTurn line (turn_on (words line))
turn_spelled line within is fine = by (words line) refl is fine
  where
    by : (ws : List (List ℕ)) → words line ≡ ws → card_among ws ≡ Some card.Turn → turn_refusal ws ≡ None → SpellsTurn line (turn_on ws)
    by [] e is fine = cc
    by (word ∷ others) e is fine =
        let two = neither (unless (length (word ∷ others) == 3) BadCard) _ fine in
        let more = three_words word others (passes (length (word ∷ others) == 3) BadCard two.0) in
        let all : word ∷ others ≡ word ∷ more.first ∷ more.second ∷ [] = ap (λ (os : List (List ℕ)). word ∷ os) more.are in
        let good : turn_refusal (word ∷ more.first ∷ more.second ∷ []) ≡ None = ap turn_refusal (sym all) ∙ fine in
        let parts = neither (unless (is_count more.first && is_count more.second) BadNumber) _ good in
        let counts = both (is_count more.first) (is_count more.second) (passes _ BadNumber parts.0) in
        let ranges = both (is_within 8 (value_of more.first)) (is_within 1000000 (value_of more.second)) (passes _ BadCard parts.1) in
        subst (λ (ws : List (List ℕ)). SpellsTurn line (turn_on ws)) (sym all) (
        record {
          slot = more.first;
          count = more.second;
          card_is = record { word = word; line_is = within; words_are = e ∙ all; names_it = is };
          counts = counts;
          slot_is = refl;
          count_is = refl;
          slot_within = is_within_then 8 (value_of more.first) ranges.0;
          count_within = is_within_then 1000000 (value_of more.second) ranges.1;
        }
        )
