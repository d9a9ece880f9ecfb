-- The texts of a round as a split sees them (own): each by its place, with the names that its cards have.
use Rattle.std.specs.Prelude.{◌≡◌, ℕ, suc, List, [], ◌∷◌}
use Rattle.preflight.specs.Rounds.{Handed}
use Rattle.parts.specs.declared.text.Text.{Text}
use Rattle.parts.specs.Splits.{speaks}
use Rattle.text_names.specs.Names.{Speaks}
use Rattle.frame_laws.specs.Naming.{speak_of}
use Rattle.rounds.specs.Delivery.{text_events}

-- from this place on
abbrev pub AreRead : ℕ → List Text → List Handed → Type 0
AreRead n [] [] = Unit {0}
AreRead n [] (one ∷ handed) = ⊥
AreRead n (text ∷ texts) [] = ⊥
AreRead n (text ∷ texts) (one ∷ handed) = (text.number ≡ n) × Speaks text.names.items text.all one.asked × AreRead (suc n) texts handed

-- what happens in a text, behind so many jobs, speaks of a name where the text as it was read does
abbrev pub NamesAreSpoken : Type 0
NamesAreSpoken = (text : Text) (handed : Handed) (jobs : ℕ) (other : List ℕ) → Speaks text.names.items text.all handed.asked
    → speak_of (text_events jobs handed) other ≡ speaks text other
