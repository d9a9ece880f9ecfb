-- A text that is admitted, with each line ended by LF, has the same lines.
use Rattle.std.proofs.Common.{◌≡◌, ℕ, List, length, sym, ap, subst, ◌∙◌}
use Rattle.std.specs.Str.Lines.{lines}
use Rattle.mon_catalogue.specs.Text.{text_of}
use Rattle.deck_syntax.specs.{Decks.{Asked}, Sections.{Closed}}
use Rattle.preflight.specs.{declared.tally.Tally.{Tally}, declared.submission.Submission.{Submission}, Examined.{IsSubmission, Admits}, Tallies.{tally_of}}
use Rattle.preflight.specs.{inner.Reading.{examined}, Submissions.{IsAdmitted, lines_of}}
use Rattle.preflight.proofs.{Exactly.{admits_exactly}, Written.{lines_of_writable, stream_writable}}

pub same_lines : (own : List ℕ) (ls : List (List ℕ)) (asked : List Asked) → examined own 1 Closed ls ≡ Admits asked → lines (text_of ls) ≡ ls
same_lines own ls asked is = lines_of_writable ls (stream_writable asked ls ((admits_exactly own ls asked).0 is).spelled)

pub kept_lines : (own text whole : List ℕ) (asked : List Asked) → examined own 1 Closed (lines text) ≡ Admits asked → whole ≡ text_of (lines text) → lines whole ≡ lines text
kept_lines own text whole asked is whole_is = ap lines whole_is ∙ same_lines own (lines text) asked is

pub is_kept : (kept : Submission) (own text : List ℕ) (counted : Tally) (asked : List Asked) → examined own 1 Closed (lines text) ≡ Admits asked → counted ≡ tally_of asked 0
    → kept.account ≡ own → kept.text.items ≡ text_of (lines text) → kept.tally ≡ record counted { bytes = length kept.text.items } → IsAdmitted kept asked
is_kept kept own text counted asked is counted_is account whole tally =
    let same = kept_lines own text kept.text.items asked is whole in
    record {
      is =
          subst (λ (name : List ℕ). IsSubmission name (lines_of kept) asked) (sym account)
          (subst (λ (ls : List (List ℕ)). IsSubmission own ls asked) (sym same) ((admits_exactly own (lines text) asked).0 is));
      text_is = whole ∙ ap text_of (sym same);
      tally_is = tally ∙ ap (λ (t : Tally). (let r : Tally = record t { bytes = length kept.text.items } in r)) counted_is;
    }
