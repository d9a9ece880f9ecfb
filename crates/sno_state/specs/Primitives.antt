-- The functions that a program does not define: those on the state of the job, and those on values alone (the SNOBOL4 book,
-- chapters 3 to 5).
use Rattle.std.specs.Prelude.{ℕ, List, Option, Some, None, Result, Ok, Err}
use Rattle.std.specs.Option.{option_map_or}
use Rattle.interaction.specs.Interactions.{Returns}
use Rattle.interaction.specs.Asking.{Asking}
use Rattle.interaction.specs.declared.request.Act.{Act}
use Rattle.interaction.specs.declared.request.Act.TheVariants as act
use Rattle.sno_text.specs.declared.fault.Fault.{Fault as AFault}
use Rattle.sno_text.specs.declared.fault.Fault.TheVariants.{Function}
use Rattle.sno_value.specs.declared.value.Value.{Value}
use Rattle.sno_value.specs.Values.{null}
use Rattle.sno_value.specs.Primitives.{argument, primitive_gives, primitive_named}
use Rattle.sno_semantics.specs.declared.got.Halt.TheVariants.{Fault}
use Rattle.sno_semantics.specs.declared.got.Evaluated.{Evaluated}
use Rattle.sno_semantics.specs.declared.got.Evaluated.TheVariants.{Halts}
use Rattle.sno_semantics.specs.Outcomes.{got_of}
use Rattle.sno_declarations.specs.Arguments.{unit_in}
use Rattle.sno_store.specs.declared.store.Store.{Store as State}
use Rattle.sno_store.specs.States.{with_function, with_input, with_output, without_associations, new_table, with_new_table}
use Rattle.sno_store.specs.declared.callee.Change.{Change}
use Rattle.sno_store.specs.declared.callee.Change.TheVariants.{Define, Input, Output, Detach}
use Rattle.sno_store.specs.declared.callee.StateFunction.{StateFunction}
use Rattle.sno_store.specs.declared.callee.StateFunction.TheVariants.{Changes, Endfile, Rewind, NewTable}
use Rattle.sno_store.specs.Callees.{state_function_named}
use Rattle.sno_state.specs.Asking.{asked, changed_by}

-- ON THE STATE OF THE JOB

-- the state after a change, or a fault
abbrev pub state_changed : Change → Value → Value → Value → State → Result State AFault
state_changed Define a b c s = with_function a b s
state_changed Input a b c s = with_input a b c s
state_changed Output a b c s = with_output a b c s
state_changed Detach a b c s = without_associations a s

-- an act on the unit that an argument tells
abbrev pub on_unit : (ℕ → Act) → Result ℕ AFault → State → Asking (Evaluated × State)
on_unit acts (Ok unit) s = asked (acts unit) s
on_unit acts (Err f) s = Returns (Halts (Fault f), s)

-- what such a function does for its first three arguments
abbrev pub state_function_done : StateFunction → Value → Value → Value → State → Asking (Evaluated × State)
state_function_done (Changes which) a b c s = Returns (changed_by null (state_changed which a b c s) s)
state_function_done Endfile a b c s = on_unit act.Endfile (unit_in a) s
state_function_done Rewind a b c s = on_unit act.Rewind (unit_in a) s
state_function_done NewTable a b c s = Returns (changed_by (new_table s) (with_new_table s) s)

-- ALL

-- a function that the program did not define is called with these values: one on the state of the job, or on values alone
abbrev pub primitive : List ℕ → List Value → State → Asking (Evaluated × State)
primitive f vs s =
    option_map_or (λ which. state_function_done which (argument 0 vs) (argument 1 vs) (argument 2 vs) s) (state_function_named f)
    (Returns (option_map_or (λ p. got_of (primitive_gives p vs s.keywords.maximum_length)) (primitive_named f) (Halts (Fault Function)), s))
