-- A text as it is kept once it is admitted (own).
use Rattle.std.specs.Prelude.{◌≡◌, ℕ, List, length}
use Rattle.std.specs.Str.Lines.{lines}
use Rattle.mon_catalogue.specs.Text.{text_of}
use Rattle.mon_text.specs.declared.stop.Stop.{Stop}
use Rattle.mon_text.specs.declared.stop.Stop.TheVariants as stop
use Rattle.deck_syntax.specs.Decks.{Asked}
use Rattle.preflight.specs.declared.submission.Submission.{Submission}
use Rattle.preflight.specs.Examined.{IsSubmission}
use Rattle.preflight.specs.Tallies.{tally_of}
use Rattle.preflight.specs.Rounds.{Handed}

-- the lines of the text that is kept
abbrev pub lines_of : Submission → List (List ℕ)
lines_of kept = lines kept.text.items

-- the lines are whole cards of the account, which ask for this; the text has each ended by LF; and the tally is theirs
pub record IsAdmitted (kept : Submission) (asked : List Asked) : Type 0 where
  pub is : IsSubmission kept.account (lines_of kept) asked
  pub text_is : kept.text.items ≡ text_of (lines_of kept)
  pub tally_is : kept.tally ≡ tally_of asked (length kept.text.items)

-- the same, as a text of a round
abbrev pub handed : Submission → List Asked → Handed
handed kept asked = record { own = kept.account; lines = lines_of kept; asked = asked }

-- what holds of a refusal, unless memory ran out
abbrev pub IfStopped : {R : Type 0} → (R → Type 0) → Stop R → Type 0
IfStopped P stop.Memory = Unit {0}
IfStopped P (stop.Refused r) = P r
