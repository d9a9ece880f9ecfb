-- Parts of the definitions by names of their own: for the code and for proofs.
use Rattle.std.specs.Prelude.{ℕ, ◌^◌, ℤ, pos, nat_lt, Bool, not, List, length, Option, if◌then◌else◌}
use Rattle.std.specs.Option.{option_map_or}
use Rattle.std.specs.Ordering.{int_eq}
use Rattle.interaction.specs.Interactions.{Returns}
use Rattle.interaction.specs.Asking.{Asking}
use Rattle.sno_text.specs.declared.fault.Fault.TheVariants.{WrongType, Function, Depth}
use Rattle.sno_value.specs.declared.value.Value.{Value}
use Rattle.sno_value.specs.Values.{null}
use Rattle.sno_value.specs.declared.primitive.Primitive.{Primitive}
use Rattle.sno_value.specs.Primitives.{primitive_gives}
use Rattle.sno_semantics.specs.declared.got.Halt.TheVariants.{Fault}
use Rattle.sno_semantics.specs.declared.got.Evaluated.{Evaluated}
use Rattle.sno_semantics.specs.declared.got.Evaluated.TheVariants.{Gives, Fails, Halts}
use Rattle.sno_semantics.specs.Outcomes.{got_of}
use Rattle.sno_semantics.specs.Keeping.{Entered, Enters, Refused}
use Rattle.sno_declarations.specs.Formats.{records}
use Rattle.sno_declarations.specs.declared.definition.Definition.{Definition}
use Rattle.sno_declarations.specs.declared.association.Output.{Output}
use Rattle.sno_store.specs.declared.store.Store.{Store as State}
use Rattle.sno_variables.specs.Variables.{variable_of, value_of}
use Rattle.sno_store.specs.States.{with_value_of}
use Rattle.sno_store.specs.Calls.{call_entered}
use Rattle.sno_state.specs.declared.using.WriteEnd.{WriteEnd}
use Rattle.sno_state.specs.declared.using.WriteEnd.TheVariants as writing
use Rattle.sno_state.specs.Using.{write_all, written}

abbrev pub is_anchored : State → Bool
is_anchored s = not (int_eq s.keywords.anchor (pos 0))

abbrev pub cursor_number : ℕ → ℤ
cursor_number at = if nat_lt at (2 ^ 63) then pos at else pos 0

-- a value that is stored and given
abbrev pub stored : List ℕ → Value → State → Evaluated × State
stored name v s = (Gives v, with_value_of name v s)

-- a text that is written where output goes
abbrev pub write_text : Output → Option (List ℕ) → State → Asking (Evaluated × State)
write_text output text s = option_map_or (λ t. write_all output.unit (records output.format t) s) text (Returns (Halts (Fault WrongType), s))

-- what an assignment gets, once its records are written or not
abbrev pub writing_got : WriteEnd → Evaluated
writing_got writing.Done = Gives null
writing_got writing.Fails = Fails
writing_got writing.NoText = Halts (Fault WrongType)

-- the value that a variable has, written where the variable is associated with a unit
abbrev pub written_on : List ℕ → State → Asking (Evaluated × State)
written_on name s = written (variable_of name s.variables).output (value_of name s.variables) s

-- a function that is called, however many calls are in one another
abbrev pub called : Definition → List Value → State → Entered State
called d vs s = if nat_lt (length s.levels) 200 then Enters d.entry (call_entered d vs s) else Refused Depth

-- a function on values alone
abbrev pub on_values : Option Primitive → List Value → State → Asking (Evaluated × State)
on_values p vs s = Returns (option_map_or (λ f. got_of (primitive_gives f vs s.keywords.maximum_length)) p (Halts (Fault Function)), s)
