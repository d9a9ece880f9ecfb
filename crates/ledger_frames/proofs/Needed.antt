-- What the cards of a text name is enough for it.
use Rattle.std.proofs.Common.{◌≡◌, ℕ, suc, Bool, false, ◌||◌, List, [], ◌∷◌, ◌++◌, sym, ap, ◌∙◌}
use Rattle.deck_syntax.specs.Decks.{Asked, Drains}
use Rattle.preflight.specs.{declared.submission.Submission.{Submission}, declared.tally.Tally.{Tally}, Submissions.{IsAdmitted, lines_of}, Examined.{IsSubmission}}
use Rattle.parts.specs.declared.text.Text.{Text}
use Rattle.text_names.specs.Names.{Speaks}
use Rattle.ledger_sets.specs.{declared.part.Which.TheVariants.{Named}, Parts.{has}}
use Rattle.round_parts.proofs.Spoken.{names_are_spoken}
use Rattle.round_cut.proofs.Making.{made_in, fenced}
use Rattle.ledger_frames.specs.Needs.{StaysWithin}

pub stays_within : (text : Submission) (read : Text) (asked : List Asked) → text.tally.creates ≡ 0 → read.all ≡ false
    → ((own : List ℕ) (ask : List Asked) → IsSubmission own (lines_of text) ask → Speaks read.names.items read.all ask) → IsAdmitted text asked
    → StaysWithin asked (has (Named read.names))
stays_within text read asked none not_all speaks admitted = record {
  named = λ jobs name spoken.
      sym (ap (λ (b : Bool). b || has (Named read.names) name) not_all)
      ∙ sym (names_are_spoken read (record { own = []; lines = []; asked = asked }) jobs name (speaks text.account asked admitted.is)) ∙ spoken;
  none_made = λ jobs. made_in (suc jobs) (asked ++ Drains ∷ []) ∙ fenced asked ∙ sym (ap (λ (t : Tally). t.creates) admitted.tally_is) ∙ none;
}
