-- A deck, taken apart (own): accounts, data sets, and texts with a `$DRAIN` card behind each.
use Rattle.std.specs.Prelude.{◌≡◌, ◌⊎◌, ℕ, List, [], ◌∷◌, ◌++◌, codes}
use Rattle.std.specs.List.{flat_map}
use Rattle.preflight.specs.declared.submission.Submission.{Submission}
use Rattle.deck_parts.specs.declared.deck.SetText.{SetText}
use Rattle.deck_parts.specs.declared.deck.Whole.{Whole}

abbrev pub fence : List ℕ
fence = codes "$DRAIN\n"

abbrev pub fenced : Submission → List ℕ
fenced text = text.text.items ++ fence

abbrev pub sets_text : List SetText → List ℕ
sets_text sets = flat_map (λ set. set.text.items) sets

abbrev pub texts_text : List Submission → List ℕ
texts_text texts = flat_map fenced texts

-- as it was, or with a fence at its end
abbrev pub IsEnded : List ℕ → List ℕ → Type 0
IsEnded text ended = (ended ≡ text) ⊎ (ended ≡ text ++ fence)

-- a line ends here, or the deck does
abbrev pub AtLineEnd : List ℕ → Type 0
AtLineEnd [] = Unit {0}
AtLineEnd (byte ∷ rest) = byte ≡ 10

-- in a stream the card `$STOP` stands right behind this
pub record IsBefore (stream before : List ℕ) : Type 0 where
  pub behind : List ℕ
  pub stream_is : stream ≡ before ++ (codes "$STOP" ++ behind)
  pub stops : AtLineEnd behind

-- What stands in a stream before the card `$STOP`, with a fence at its end.
pub record IsSettled (stream settled : List ℕ) : Type 0 where
  pub before : List ℕ
  pub stream_is : IsBefore stream before
  pub settled_is : IsEnded before settled

-- the texts of a stream, from its card on
pub record IsStream (stream : List ℕ) (texts : List Submission) : Type 0 where
  pub cards : List ℕ
  pub stream_is : stream ≡ codes "$STREAM\n" ++ cards
  pub texts_are : IsSettled cards (texts_text texts)

pub record IsTakenApart (deck : List ℕ) (whole : Whole) : Type 0 where
  pub stream : List ℕ
  pub deck_is : deck ≡ whole.front.items ++ (sets_text whole.sets.items ++ stream)
  pub stream_is : IsStream stream whole.texts.items
