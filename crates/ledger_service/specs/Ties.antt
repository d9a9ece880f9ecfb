-- How many texts the names tie together of which their cards speak (own).
use Rattle.std.specs.Prelude.{◌≡◌, ℕ, ◌+◌, ◌==◌, max, List, [], ◌∷◌, map, if◌then◌else◌}
use Rattle.parts_laws.specs.Runs.{GoWithNames}
use Rattle.parts.specs.Splits.{speaks, goes, numbered}
use Rattle.parts.specs.Told.{Told}
use Rattle.parts.specs.declared.text.Text.{Text}

-- how many go to a part
abbrev pub count_of : ℕ → List ℕ → ℕ
count_of part [] = 0
count_of part (other ∷ parts) = (if other == part then 1 else 0) + count_of part parts

-- of these parts, how often the one stands among all that is there most often
abbrev pub most_of : List ℕ → List ℕ → ℕ
most_of all [] = 0
most_of all (part ∷ parts) = max (count_of part all) (most_of all parts)

-- where each text goes
abbrev pub parts_of : Told → List Text → List ℕ
parts_of told texts = map (λ text. (goes told).of_text text.number) texts

-- the texts go to parts, each name of which a text speaks goes where the text does, and so many go to the part to which most go: no more
-- are tied together
pub record AreTied (most : ℕ) (texts : List Text) (told : Told) : Type 0 where
  pub apart : GoWithNames speaks (goes told) (map numbered texts)
  pub most_are : most ≡ most_of (parts_of told texts) (parts_of told texts)
