-- Where a run of a program begins (own).
use Rattle.std.specs.Prelude.{ℕ, bytes_eq, List, [], ◌∷◌, Option, Some, None, option_map, if◌then◌else◌, ◌==◌}
use Rattle.std.specs.Map.{lookup}
use Rattle.sno_syntax.specs.declared.start.Start.{Start}
use Rattle.sno_syntax.specs.declared.start.Start.TheVariants.{Statement, End}
use Rattle.sno_syntax.specs.Labels.{LabelList, is_end}

-- what the words after END say, where there are so many statements: nothing, or one label
abbrev pub start_of : ℕ → LabelList → List (List ℕ) → Option Start
start_of count labels [] = Some (if count == 0 then End else Statement 0)
start_of count labels (word ∷ []) = if is_end word then Some End else option_map Statement (lookup (bytes_eq word) labels)
start_of count labels _ = None
