-- The words of a line that is printed (own).
use Rattle.std.specs.Prelude.{ℕ, List, ◌++◌, codes, decimal}

-- a word behind another, and a number behind a word
abbrev pub word : List ℕ → List ℕ
word text = codes " " ++ text

abbrev pub number : ℕ → List ℕ
number n = word (decimal n)
