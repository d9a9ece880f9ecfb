-- The words of a line as they are kept: the first three, and what stands behind them. A word that there isn't is empty.
use Rattle.std.specs.Prelude.{◌≡◌, ℕ, List, ◌∷◌, length, filter}
use Rattle.std.specs.List.{slice_split}
use Rattle.mon_text.specs.Characters.{is_blank}
use Rattle.mon_text.specs.Lines.{is_nonempty}

-- all of them
abbrev pub found : List ℕ → List ℕ → List ℕ → List ℕ → List (List ℕ)
found first second third others = filter is_nonempty (first ∷ second ∷ third ∷ slice_split is_blank others)

-- nothing stands behind a word that there isn't
abbrev pub AreInOrder : List ℕ → List ℕ → List ℕ → List ℕ → Type 0
AreInOrder first second third others =
    (length first ≡ 0 → length second ≡ 0) × (length second ≡ 0 → length third ≡ 0) × (length third ≡ 0 → length others ≡ 0)
