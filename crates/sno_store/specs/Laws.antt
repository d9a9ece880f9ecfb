-- Laws of the state.
use Rattle.std.specs.Prelude.{◌≡◌, ℕ, nat_eq, true, false, List, ◌∷◌, drop, Result, Ok, Err}
use Rattle.std.specs.List.{list_any}
use Rattle.std.specs.Cmp.Lexicographic.{pointwise}
use Rattle.sno_value.specs.declared.value.Value.{Value}
use Rattle.sno_text.specs.declared.fault.Fault.{Fault}
use Rattle.sno_declarations.specs.Prototypes.{names_of}
use Rattle.sno_declarations.specs.declared.definition.Definition.{Definition}
use Rattle.sno_store.specs.declared.store.Store.{Store as State}
use Rattle.sno_variables.specs.Variables.{value_of}
use Rattle.sno_store.specs.declared.keyword.Keyword.{Keyword}
use Rattle.sno_store.specs.States.{with_value_of, with_name, with_statement, with_input, with_output, without_associations, with_function, with_keyword_set}
use Rattle.sno_store.specs.Calls.{level_with, call_entered, call_left}

-- a call restores the values of the function's name, parameters and locals, whatever was done between
abbrev pub CallRestores : Type 0
CallRestores =
    (d : Definition) (arguments : List Value) (s t : State) (name : List ℕ) → t.levels ≡ (call_entered d arguments s).levels
    → list_any (pointwise nat_eq name) (names_of d.prototype) ≡ true → value_of name (call_left t).variables ≡ value_of name s.variables

-- and leaves the others as they are then
abbrev pub CallLeavesOthers : Type 0
CallLeavesOthers =
    (d : Definition) (arguments : List Value) (s t : State) (name : List ℕ) → t.levels ≡ (call_entered d arguments s).levels
    → list_any (pointwise nat_eq name) (names_of d.prototype) ≡ false → value_of name (call_left t).variables ≡ value_of name t.variables

-- what is saved for the calls that are open is still the same, unless there is a fault
abbrev pub KeepsLevels : State → Result State Fault → Type 0
KeepsLevels s (Ok t) = t.levels ≡ s.levels
KeepsLevels s (Err f) = Unit {0}

-- nothing but calls and their ends changes what is saved
abbrev pub LevelsStay : Type 0
LevelsStay =
    (s : State)
    → ((name : List ℕ) (v : Value) → (with_value_of name v s).levels ≡ s.levels)
    × ((name : List ℕ) → (with_name name s).levels ≡ s.levels)
    × ((statement : ℕ) → (with_statement statement s).levels ≡ s.levels)
    × ((name unit most : Value) → KeepsLevels s (with_input name unit most s))
    × ((name unit format : Value) → KeepsLevels s (with_output name unit format s))
    × ((name : Value) → KeepsLevels s (without_associations name s))
    × ((prototype entry : Value) → KeepsLevels s (with_function prototype entry s))
    × ((keyword : Keyword) (v : Value) → KeepsLevels s (with_keyword_set keyword v s))

-- a call saves one level more, and its end takes that one away
abbrev pub CallsNest : Type 0
CallsNest =
    ((d : Definition) (arguments : List Value) (s : State) → (call_entered d arguments s).levels ≡ level_with d s.keywords.statement s.variables ∷ s.levels)
    × ((s : State) → (call_left s).levels ≡ drop 1 s.levels)
