-- Names with values: what calls keep of variables, give them, and give them back (the SNOBOL4 book, chapter 4).
use Rattle.std.specs.Prelude.{ℕ, List, [], ◌∷◌}
use Rattle.sno_value.specs.declared.value.Value.{Value}
use Rattle.sno_value.specs.Values.{null}
use Rattle.sno_variables.specs.Variables.{Variables, given}

-- names with values
abbrev pub Bindings : Type 0
Bindings = List (List ℕ × Value)

-- a value for each name: values that are missing are null, and further ones are dropped
abbrev pub paired : List (List ℕ) → List Value → Bindings
paired [] vs = []
paired (name ∷ names) [] = (name, null) ∷ paired names []
paired (name ∷ names) (v ∷ vs) = (name, v) ∷ paired names vs

-- each gets its value
abbrev pub assigned : Bindings → Variables → Variables
assigned [] vs = vs
assigned (b ∷ bs) vs = assigned bs (given b.0 b.1 vs)
