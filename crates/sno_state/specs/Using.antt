-- A variable used, and assigned a value (the SNOBOL4 book, chapter 1, and what it says of input and output; what is kept of a
-- record, and how records are cut, is own).
use Rattle.std.specs.Prelude.{ℕ, List, [], ◌∷◌, Option}
use Rattle.std.specs.Option.{option_map_or}
use Rattle.interaction.specs.Interactions.{Returns, ask, ◌>>=◌}
use Rattle.interaction.specs.Asking.{Asking}
use Rattle.interaction.specs.declared.request.Act.TheVariants.{Read, Write}
use Rattle.interaction.specs.declared.answer.Answer.{Answer}
use Rattle.interaction.specs.declared.answer.Answer.TheVariants as answer
use Rattle.sno_text.specs.declared.fault.Fault.TheVariants.{WrongType}
use Rattle.sno_value.specs.declared.value.Value.{Value}
use Rattle.sno_value.specs.declared.value.Value.TheVariants.{Text}
use Rattle.sno_value.specs.Values.{null, text_of}
use Rattle.sno_semantics.specs.declared.got.Halt.TheVariants.{Fault}
use Rattle.sno_semantics.specs.declared.got.Evaluated.{Evaluated}
use Rattle.sno_semantics.specs.declared.got.Evaluated.TheVariants.{Gives, Fails, Halts}
use Rattle.sno_declarations.specs.Formats.{records}
use Rattle.sno_declarations.specs.declared.association.Input.{Input}
use Rattle.sno_declarations.specs.declared.association.Output.{Output}
use Rattle.sno_store.specs.declared.store.Store.{Store as State}
use Rattle.sno_variables.specs.Variables as variables
use Rattle.sno_variables.specs.Variables.{Use, use_of, variable_of}
use Rattle.sno_store.specs.States.{with_value_of, kept_of}
use Rattle.sno_state.specs.Asking.{request, if_done}

-- USED

-- what is kept of a record is stored, and given; where none is read nothing is stored
abbrev pub stored_of : List ℕ → Input → Answer → State → Evaluated × State
stored_of name input (answer.Got line) s = let v = Text (kept_of input s.keywords line) in (Gives v, with_value_of name v s)
stored_of name input _ s = (Fails, s)

abbrev pub used_by : List ℕ → Use → State → Asking (Evaluated × State)
used_by name (variables.Gives v) s = Returns (Gives v, s)
used_by name (variables.Reads input) s = ask (request (Read input.unit) s) >>= λ answer. Returns (stored_of name input answer s)

-- the value of a variable is used: a record is read, where it is associated with a unit
abbrev pub used : List ℕ → State → Asking (Evaluated × State)
used name s = used_by name (use_of (variable_of name s.variables)) s

-- ASSIGNED

-- in their order; the first that is not written makes it fail, and the rest are not tried
abbrev pub write_all : ℕ → List (List ℕ) → State → Asking (Evaluated × State)
write_all unit [] s = Returns (Gives null, s)
write_all unit (line ∷ lines) s = ask (request (Write unit line) s) >>= λ answer. if_done answer s (write_all unit lines s)

abbrev pub written : Option Output → Value → State → Asking (Evaluated × State)
written output v s =
    option_map_or (λ o. option_map_or (λ t. write_all o.unit (records o.format t) s) (text_of v) (Returns (Halts (Fault WrongType), s)))
    output (Returns (Gives null, s))

-- a variable is assigned a value: it is stored, and then written where the variable is associated with a unit
abbrev pub assigned : List ℕ → Value → State → Asking (Evaluated × State)
assigned name v s = written (variable_of name s.variables).output v (with_value_of name v s)
