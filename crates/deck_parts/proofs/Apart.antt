-- A deck, taken apart piece by piece.
use Rattle.std.proofs.Common.{◌≡◌, ℕ, List, [], ◌++◌, sym, ap, ◌∙◌, subst}
use Rattle.std.specs.Prelude.{codes}
use Rattle.preflight.specs.declared.submission.Submission.{Submission}
use Rattle.deck_parts.specs.declared.deck.{SetText.{SetText}, Whole.{Whole}}
use Rattle.deck_parts.specs.Wholes.{AtLineEnd, IsBefore, IsEnded, sets_text, texts_text, IsSettled, IsStream, IsTakenApart}

pub settles : (stream before ended : List ℕ) → IsBefore stream before → IsEnded before ended → IsSettled stream ended
settles stream before ended is ends = record { before = before; stream_is = is; settled_is = ends }

-- at this place
pub stands_before : (stream before rest behind : List ℕ) → before ++ rest ≡ stream → rest ≡ codes "$STOP" ++ behind → AtLineEnd behind → IsBefore stream before
stands_before stream before rest behind parts is stops = record {
  behind = behind;
  stream_is = sym parts ∙ ap (λ (l : List ℕ). before ++ l) is;
  stops = stops;
}

pub settled_texts : (cards settled : List ℕ) (texts : List Submission) → IsSettled cards settled → texts_text texts ≡ settled → IsSettled cards (texts_text texts)
settled_texts cards settled texts ends are = subst (λ (l : List ℕ). IsSettled cards l) (sym are) ends

pub stream_of : (stream cards : List ℕ) (texts : List Submission) → stream ≡ codes "$STREAM\n" ++ cards → IsSettled cards (texts_text texts) → IsStream stream texts
stream_of stream cards texts is are = record { cards = cards; stream_is = is; texts_are = are }

pub taken_apart : (deck stream catalogue none : List ℕ) (no_sets : List SetText) (whole : Whole) → none ≡ [] → no_sets ≡ []
    → whole.front.items ++ catalogue ≡ none ++ deck → sets_text whole.sets.items ++ stream ≡ sets_text no_sets ++ catalogue
    → IsStream stream whole.texts.items → IsTakenApart deck whole
taken_apart deck stream catalogue none no_sets whole no_bytes no_set first next texts = record {
  stream = stream;
  deck_is = sym (ap (λ (l : List ℕ). whole.front.items ++ l) (next ∙ ap (λ (s : List SetText). sets_text s ++ catalogue) no_set) ∙ first ∙ ap (λ (l : List ℕ). l ++ deck) no_bytes);
  stream_is = texts;
}
