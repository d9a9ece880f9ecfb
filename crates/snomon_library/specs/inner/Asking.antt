-- Words before the first that ends the options or asks for an audit.
use Rattle.std.specs.Prelude.{ℕ, Bool, ◌||◌, List, ◌++◌, is_some}
use Rattle.snomon_library.specs.Asking.{Asked, file_in, is_end, is_option}

-- whether a word ends the options or asks for an audit
abbrev pub stands_out : List ℕ → Bool
stands_out word = is_end word || (is_some (file_in word) || is_option word)

-- what is asked for, behind such words
abbrev pub onto : List (List ℕ) → Asked → Asked
onto front asked = record asked { left = front ++ asked.left }
