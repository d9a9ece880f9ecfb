-- What is saved of variables.
use Rattle.std.specs.Prelude.{ℕ, List, map}
use Rattle.sno_variables.specs.{Variables.{Variables, value_of}, Bindings.{Bindings}}

-- names, each with the value that it has now
abbrev pub saved : List (List ℕ) → Variables → Bindings
saved names vs = map (λ name. (name, value_of name vs)) names
