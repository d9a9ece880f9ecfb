-- What is picked for one number, and for one name.
use Rattle.std.specs.Prelude.{ℕ, nat_eq, ◌==◌, List, [], unwrap_or}
use Rattle.std.specs.Map.{lookup}
use Rattle.std.specs.Cmp.Lexicographic.{pointwise}
use Rattle.parts_laws.specs.Runs.{Split}
use Rattle.parts.specs.Joining.{printed_in, left_in}
use Rattle.parts.specs.declared.joining.Part.{Part}

abbrev pub printout_of : Split (List ℕ) → List Part → ℕ → List ℕ
printout_of split parts n = unwrap_or (lookup (λ m. n == m) (printed_in parts (split.of_text n))) []

abbrev pub set_of : Split (List ℕ) → List Part → List ℕ → List ℕ
set_of split parts name = unwrap_or (lookup (pointwise nat_eq name) (left_in parts (split.of_name name))) []
