-- What is made of texts. A text is seen as the list of its characters.
use Rattle.std.specs.Prelude.{ℕ, List, [], ◌∷◌, if◌then◌else◌}
use Rattle.mon_text.specs.Characters.{is_blank}

-- a text without the blanks at its end (the SNOBOL4 book, chapter 3, TRIM)
abbrev pub without_trailing_blanks : List ℕ → List ℕ
without_trailing_blanks [] = []
without_trailing_blanks (c ∷ cs) = elim (without_trailing_blanks cs) [ [] ↦ if is_blank c then [] else c ∷ [] | d ∷ ds ↦ c ∷ d ∷ ds ]
