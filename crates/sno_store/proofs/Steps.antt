-- What several steps come to: a function that is defined.
use Rattle.std.proofs.Common.{◌≡◌, ℕ, List, ◌∙◌, sym, ap, ap₂, nat_eq, Ok}
use Rattle.std.specs.{Prelude.{Result}, Cmp.Lexicographic.{pointwise}}
use Rattle.indexmap.specs.IndexMap.{insert_entry}
use Rattle.sno_text.specs.declared.fault.Fault.{Fault}
use Rattle.sno_value.specs.declared.value.Value.{Value}
use Rattle.sno_declarations.specs.{declared.definition.Definition.{Definition}, Arguments.{go_on}, Definitions.{definition_in}}
use Rattle.sno_store.specs.{declared.store.Store.{Store as State}, States.{with_function}}

pub defined : (prototype entry : Value) (s : State) (d f : Definition) (name : List ℕ) (fs : List (List ℕ × Definition)) → definition_in prototype entry ≡ Ok d
    → name ≡ d.prototype.name → f ≡ d → fs ≡ insert_entry (pointwise nat_eq) s.functions name f → with_function prototype entry s ≡ Ok (record s { functions = fs })
defined prototype entry s d f name fs is named same inserted =
    let function : fs ≡ insert_entry (pointwise nat_eq) s.functions d.prototype.name d = inserted ∙ ap₂ (λ (n : List ℕ) (g : Definition). insert_entry (pointwise nat_eq) s.functions n g) named same in
    let after : List (List ℕ × Definition) → Result State Fault = λ gs. Ok (record s { functions = gs }) in
    ap (λ (r : Result Definition Fault). go_on r (λ g. Ok (record s { functions = insert_entry (pointwise nat_eq) s.functions g.prototype.name g }))) is
    ∙ sym (ap after function)
