-- What worked cards and jobs are read as.
use Rattle.std.proofs.Common.{◌≡◌, ℕ, List, [], ◌∷◌, Option, Some, refl}
use Rattle.std.specs.Prelude.{codes}
use Rattle.mon_text.specs.Lines.{words}
use Rattle.deck_lines.specs.{declared.deck_error.DeckError.{DeckError}, Cards.{card_among}}
use Rattle.deck_lines.specs.declared.deck_error.DeckError.TheVariants.{BadName, BadNumber, BadCard, UnknownCard, OutOfPlace}
use Rattle.deck_syntax.specs.{declared.job.OpenJob.{OpenJob}, Decks.{Enters, Drains, Stopped}, Jobs.{usual_limits}, inner.Parts.{opened_job}}
use Rattle.deck_syntax.specs.{Requests.{stream_card_refusal}, Sections.{Closed, InJob, refused_on_line, stream_section, refused_early, opening_section}}

abbrev code_of : List ℕ → Option DeckError
code_of card = stream_card_refusal (card_among (words card)) (words card)

option_before_name : code_of (codes "$JOB 9lisa TIME=1") ≡ Some BadCard
option_before_name = refl

name_before_number : code_of (codes "$JOB 9lisa ST=x") ≡ Some BadName
name_before_number = refl

number_before_range : code_of (codes "$JOB lisa ST=0 MATCH=x") ≡ Some BadNumber
number_before_range = refl

option_twice : code_of (codes "$JOB lisa ST=2 ST=3") ≡ Some BadCard
option_twice = refl

limit_too_large : code_of (codes "$JOB lisa MATCH=10000001") ≡ Some BadCard
limit_too_large = refl

turn_number_before_range : code_of (codes "$TURN 9 x") ≡ Some BadNumber
turn_number_before_range = refl

end_in_the_stream : code_of (codes "$EOJ") ≡ Some OutOfPlace
end_in_the_stream = refl

-- a card that is known is out of place before the account table
too_early : opening_section 1 (codes "$DRAIN" ∷ []) ≡ refused_early 1 OutOfPlace []
too_early = refl

abbrev lisa : OpenJob
lisa = opened_job (codes "lisa") usual_limits

-- two dollar signs stand for one, and what follows `$EOJ` is not the job's
a_job : stream_section 1 Closed
    (codes "$JOB lisa" ∷ codes "$UNIT 8 PAYROLL" ∷ codes "  P = 'X'" ∷ codes "END" ∷ codes "$$JOB" ∷ codes "$EOJ" ∷ codes "$DRAIN" ∷ codes "$STOP" ∷ [])
    ≡ record {
      asked = Enters (record lisa { ties = record { unit = 8; set = codes "PAYROLL" } ∷ []; lines = codes "  P = 'X'" ∷ codes "END" ∷ codes "$JOB" ∷ [] }) ∷ Drains ∷ [];
      ending = Stopped;
    }
a_job = refl

-- a blank line begins the program
blank_line_first : stream_section 1 (InJob lisa) ([] ∷ codes "$UNIT 8 X" ∷ []) ≡ refused_on_line 2 OutOfPlace
blank_line_first = refl

unknown_before : stream_section 1 (InJob lisa) (codes "$EOJX" ∷ []) ≡ refused_on_line 1 UnknownCard
unknown_before = refl

unknown_behind : stream_section 1 (InJob lisa) (codes "END" ∷ codes "$EOJX" ∷ []) ≡ refused_on_line 2 OutOfPlace
unknown_behind = refl
