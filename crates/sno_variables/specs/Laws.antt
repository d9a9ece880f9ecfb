-- Laws of variables.
use Rattle.std.specs.Prelude.{◌≡◌, ℕ, nat_eq, false, List}
use Rattle.std.specs.Cmp.Lexicographic.{pointwise}
use Rattle.sno_variables.specs.declared.variable.Variable.{Variable}
use Rattle.sno_variables.specs.Variables.{Variables, variable_of, put, noted}
use Rattle.sno_variables.specs.Bindings.{Bindings, assigned}

-- what was put is found
abbrev pub PutIsFound : Type 0
PutIsFound = (name : List ℕ) (variable : Variable) (vs : Variables) → variable_of name (put name variable vs) ≡ variable

-- and the other names stay as they are
abbrev pub OthersStay : Type 0
OthersStay =
    (name other : List ℕ) (variable : Variable) (vs : Variables) → pointwise nat_eq other name ≡ false → variable_of other (put name variable vs) ≡ variable_of other vs

-- naming a variable changes none
abbrev pub NamingChangesNothing : Type 0
NamingChangesNothing = (name other : List ℕ) (vs : Variables) → variable_of other (noted name vs) ≡ variable_of other vs

-- values that calls set and restore leave all associations as they are
abbrev pub AssociationsStay : Type 0
AssociationsStay =
    (bindings : Bindings) (vs : Variables) (name : List ℕ)
    → ((variable_of name (assigned bindings vs)).input ≡ (variable_of name vs).input)
    × ((variable_of name (assigned bindings vs)).output ≡ (variable_of name vs).output)
