-- What a program is, by its first refusal and its END line.
use Rattle.std.proofs.Common.{◌≡◌, ℕ, ◌+◌, false, List, length, take, Option, Some, None, Ok, Err, IsOk, slice_get, refl, ap, ◌∙◌}
use Rattle.std.{specs.List.{find}, proofs.lemmas.List.Folds.{find_at}}
use Rattle.sno_cards.specs.{declared.refusal.SyntaxError.{SyntaxError}, declared.refusal.SyntaxCode.TheVariants.{NoEndLine}, Cards.{is_end_line}}
use Rattle.sno_cards.specs.Statements.{numbered, first_refusal, end_index, refused_card, program_ended_by, statements_of}
use Rattle.sno_cards.proofs.Shorthand.{program_with, unless_refused}

-- with what is known of the cards before the END line, and of that line
pub statements_by : (lines : List (List ℕ)) (refusal : Option SyntaxError) (end_line : Option (List ℕ))
    → first_refusal false (numbered 1 (take (end_index lines) lines)) ≡ refusal → slice_get lines (end_index lines) ≡ end_line
    → statements_of lines ≡ unless_refused refusal (program_with end_line lines)
statements_by lines refusal end_line refused ended =
    ap (λ (r : Option SyntaxError). unless_refused r (program_with (find is_end_line lines) lines)) refused
    ∙ ap (λ (line : Option (List ℕ)). unless_refused refusal (program_with line lines)) (find_at is_end_line lines ∙ ended)

pub refused_by_card : (lines : List (List ℕ)) (refusal : SyntaxError)
    → first_refusal false (numbered 1 (take (end_index lines) lines)) ≡ Some refusal → statements_of lines ≡ Err refusal
refused_by_card lines refusal refused = statements_by lines (Some refusal) (slice_get lines (end_index lines)) refused refl

pub refused_without_end : (lines : List (List ℕ)) → first_refusal false (numbered 1 (take (end_index lines) lines)) ≡ None
    → slice_get lines (end_index lines) ≡ None → statements_of lines ≡ Err (refused_card (length lines + 1) NoEndLine)
refused_without_end lines good none = statements_by lines None None good none

pub ended_by : (lines : List (List ℕ)) (end_line : List ℕ) → first_refusal false (numbered 1 (take (end_index lines) lines)) ≡ None
    → slice_get lines (end_index lines) ≡ Some end_line → statements_of lines ≡ Ok (program_ended_by end_line lines)
ended_by lines end_line good ended = statements_by lines None (Some end_line) good ended

pub not_refused : (lines : List (List ℕ)) (end_line : List ℕ) → first_refusal false (numbered 1 (take (end_index lines) lines)) ≡ None
    → slice_get lines (end_index lines) ≡ Some end_line → IsOk (statements_of lines)
not_refused lines end_line good ended = rw (ended_by lines end_line good ended) refl

pub ruleset programs = (refused_by_card, refused_without_end, ended_by, not_refused)
