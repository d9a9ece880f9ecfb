-- What is written at the place of a name gives it its value.
use Rattle.std.proofs.Common.{◌≡◌, ℕ, nat_eq, List, None, Some, position, slice_get, ◌∙◌}
use Rattle.std.specs.{Map.{keys_of, values_of}, Cmp.Lexicographic.{pointwise}}
use Rattle.indexmap.specs.IndexMap.{set_value_at}
use Rattle.sno_value.specs.declared.value.Value.{Value}
use Rattle.sno_variables.specs.{declared.variable.Variable.{Variable}, Variables.{Variables, holding, put, given}}
use Rattle.sno_variables.proofs.{Places.{put_there, value_there, none_there, still_distinct}, Changing.{given_known, given_new}}

pub written_there : (name : List ℕ) (vs : Variables) (i : ℕ) (x : Variable) (v : Value) → Some i ≡ position (pointwise nat_eq name) (keys_of vs) → Some x ≡ slice_get (values_of vs) i
    → set_value_at vs i (record x { value = v }) ≡ given name v vs
written_there name vs i x v at is =
    put_there name vs i (record x { value = v }) at ∙ given_known name vs x v (is ∙ value_there name vs i at)

pub put_new : (name : List ℕ) (vs : Variables) (v : Value) → None ≡ position (pointwise nat_eq name) (keys_of vs) → put name (holding v) vs ≡ given name v vs
put_new name vs v at = given_new name vs v (none_there name vs at)

pub ruleset assigning = (written_there, put_new, still_distinct)
