-- Values for the variables of a function that is called.
use Rattle.std.specs.Prelude.{ℕ, zero, suc, List, [], ◌∷◌, ◌++◌, length}
use Rattle.sno_value.specs.declared.value.Value.{Value}
use Rattle.sno_value.specs.Values.{null}
use Rattle.sno_declarations.specs.declared.prototype.Prototype.{Prototype}

-- so many values: those that are missing are null, and further ones are dropped
abbrev pub fitted : ℕ → List Value → List Value
fitted zero ws = []
fitted (suc n) [] = null ∷ fitted n []
fitted (suc n) (w ∷ ws) = w ∷ fitted n ws

-- what a call gives the function's variables, one for each
abbrev pub values_for : Prototype → List Value → List Value
values_for p arguments = null ∷ (fitted (length p.parameters) arguments ++ fitted (length p.locals) [])
