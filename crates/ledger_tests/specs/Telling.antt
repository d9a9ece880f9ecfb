-- A small machine (own): a text prints all that ran before it, and itself.
use Rattle.std.specs.Prelude.{ℕ, List, [], ◌∷◌, ◌++◌}

-- these, one behind the other
abbrev pub told : List (List ℕ) → List ℕ
told [] = []
told (text ∷ texts) = text ++ told texts

-- what it prints and changes, by what ran before it
abbrev pub telling : List ℕ → List (List ℕ) → List ℕ × List ℕ
telling text texts = (told texts ++ text, text)
