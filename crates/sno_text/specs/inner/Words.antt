-- Words of the machine that tell short texts.
use Rattle.std.specs.Prelude.{ℕ, List, [], ◌∷◌, ◌+◌, ◌*◌, ◌≡◌, ◌≢◌}

-- 1, and below it the characters of a text, the first one lowest
abbrev pub told : List ℕ → ℕ
told [] = 1
told (c ∷ cs) = c + 256 * told cs

-- a word is 0, or the one that tells a text
abbrev pub Tells : ℕ → List ℕ → Type 0
Tells word text = word ≢ 0 → word ≡ told text
