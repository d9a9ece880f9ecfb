-- What texts begin with (own).
use Rattle.std.specs.Prelude.{ℕ, Bool, false, if◌then◌else◌, List, [], ◌∷◌}

-- whether a text begins with a character that passes a test
abbrev pub first_passes : (ℕ → Bool) → List ℕ → Bool
first_passes test [] = false
first_passes test (c ∷ cs) = test c

-- a text without the characters at its beginning that pass a test
abbrev pub without_leading : (ℕ → Bool) → List ℕ → List ℕ
without_leading test [] = []
without_leading test (c ∷ cs) = if test c then without_leading test cs else c ∷ cs
