-- The deck of a part (own): the front of the whole, the data sets and the texts that go to the part, each in the order of the whole.
use Rattle.std.specs.Prelude.{ℕ, suc, ◌==◌, List, [], ◌∷◌, ◌++◌, codes, if◌then◌else◌}
use Rattle.std.specs.List.{flat_map}
use Rattle.parts_laws.specs.Runs.{Split}
use Rattle.preflight.specs.declared.submission.Submission.{Submission}
use Rattle.deck_parts.specs.declared.deck.SetText.{SetText}
use Rattle.deck_parts.specs.declared.deck.Whole.{Whole}
use Rattle.deck_parts.specs.Wholes.{fenced}

abbrev pub set_in : Split (List ℕ) → ℕ → SetText → List ℕ
set_in split k set = if split.of_name set.name == k then set.text.items else []

-- the text at this place
abbrev pub text_in : Split (List ℕ) → ℕ → ℕ → Submission → List ℕ
text_in split k n text = if split.of_text n == k then fenced text else []

-- of the texts from this place on
abbrev pub texts_in : Split (List ℕ) → ℕ → ℕ → List Submission → List ℕ
texts_in split k n [] = []
texts_in split k n (text ∷ texts) = text_in split k n text ++ texts_in split k (suc n) texts

abbrev pub deck_of_part : Split (List ℕ) → ℕ → Whole → List ℕ
deck_of_part split k whole =
    whole.front.items ++ (flat_map (set_in split k) whole.sets.items ++ (codes "$STREAM\n" ++ (texts_in split k 0 whole.texts.items ++ codes "$STOP\n")))
