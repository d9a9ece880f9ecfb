-- Values that are exchanged with those of variables that were named before, one after the other.
use Rattle.std.specs.Prelude.{ℕ, zero, suc, List, [], ◌∷◌, map, set, slice_index_or, Option, None, Some, slice_get, if◌then◌else◌}
use Rattle.std.specs.Map.{values_of}
use Rattle.indexmap.specs.IndexMap.{set_value_at}
use Rattle.sno_value.specs.declared.value.Value.{Value}
use Rattle.sno_value.specs.Values.{null}
use Rattle.sno_variables.specs.declared.variable.Variable.{Variable}
use Rattle.sno_variables.specs.Variables.{Variables, is_named, value_of, given}

-- the values that names have
abbrev pub values_now : List (List ℕ) → Variables → List Value
values_now names vs = map (λ name. value_of name vs) names

-- the variables after a value was exchanged at a place, and the value that was there; nothing happens where no variable is
abbrev pub with_value_in : Option Variable → ℕ → Value → Variables → Variables
with_value_in None place w vs = vs
with_value_in (Some x) place w vs = set_value_at vs place (record x { value = w })

abbrev pub with_value_at : ℕ → Value → Variables → Variables
with_value_at place w vs = with_value_in (slice_get (values_of vs) place) place w vs

abbrev pub value_in : Option Variable → Value → Value
value_in None w = w
value_in (Some x) w = x.value

abbrev pub value_at : ℕ → Value → Variables → Value
value_at place w vs = value_in (slice_get (values_of vs) place) w

-- the same by a name; nothing happens where it was never named
abbrev pub after : List ℕ → Value → Variables → Variables
after name w vs = if is_named name vs then given name w vs else vs

abbrev pub before : List ℕ → Value → Variables → Value
before name w vs = if is_named name vs then value_of name vs else w

-- the values that names have, each before the next is exchanged
abbrev pub taken_by : List (List ℕ) → List Value → Variables → List Value
taken_by [] ws vs = ws
taken_by (name ∷ names) [] vs = []
taken_by (name ∷ names) (w ∷ ws) vs = value_of name vs ∷ taken_by names ws (given name w vs)

-- values and variables once the first so many are exchanged again, the last of them first
abbrev pub undone : ℕ → List (List ℕ) → List Value → Variables → List Value × Variables
undone zero names ws vs = (ws, vs)
undone (suc n) names ws vs =
    undone n names (set ws n (before (slice_index_or names n []) (slice_index_or ws n null) vs)) (after (slice_index_or names n []) (slice_index_or ws n null) vs)
