-- The variables of a job: their values, and the units that their reads and writes go to (the SNOBOL4 book, chapter 1, and what it says of input and output).
-- A variable that was never named has the null string.
use Rattle.std.specs.Prelude.{ℕ, nat_eq, Bool, List, None, Some, is_some, unwrap_or}
use Rattle.std.specs.Option.{option_map_or}
use Rattle.std.specs.Map.{lookup}
use Rattle.std.specs.Cmp.Lexicographic.{pointwise}
use Rattle.indexmap.specs.IndexMap.{insert_entry}
use Rattle.sno_value.specs.declared.value.Value.{Value}
use Rattle.sno_value.specs.Values.{null}
use Rattle.sno_variables.specs.declared.variable.Variable.{Variable}
use Rattle.sno_declarations.specs.declared.association.Input.{Input}
use Rattle.sno_declarations.specs.declared.association.Output.{Output}
use Rattle.sno_variables.specs.declared.variable.Found.{Found}
use Rattle.sno_variables.specs.declared.variable.Found.TheVariants as found

-- in the order in which they were first named
abbrev pub Variables : Type 0
Variables = List (List ℕ × Variable)

abbrev pub holding : Value → Variable
holding v = record { value = v; input = None; output = None }

abbrev pub variable_of : List ℕ → Variables → Variable
variable_of name vs = unwrap_or (lookup (pointwise nat_eq name) vs) (holding null)

abbrev pub is_named : List ℕ → Variables → Bool
is_named name vs = is_some (lookup (pointwise nat_eq name) vs)

abbrev pub value_of : List ℕ → Variables → Value
value_of name vs = (variable_of name vs).value

abbrev pub put : List ℕ → Variable → Variables → Variables
put name variable vs = insert_entry (pointwise nat_eq) vs name variable

-- with a value; the associations stay
abbrev pub given : List ℕ → Value → Variables → Variables
given name v vs = put name (record (variable_of name vs) { value = v }) vs

abbrev pub reading : List ℕ → Input → Variables → Variables
reading name input vs = put name (record (variable_of name vs) { input = Some input }) vs

abbrev pub writing : List ℕ → Output → Variables → Variables
writing name output vs = put name (record (variable_of name vs) { output = Some output }) vs

abbrev pub detached : List ℕ → Variables → Variables
detached name vs = put name (holding (value_of name vs)) vs

-- named, and nothing else
abbrev pub noted : List ℕ → Variables → Variables
noted name vs = put name (variable_of name vs) vs

-- WHAT USING A VARIABLE MEETS

-- its value; or a record is read, where it is associated with a unit
pub data Use : Type 0 where
  Gives : (value : Value) → Use
  Reads : (input : Input) → Use

abbrev pub use_of : Variable → Use
use_of variable = option_map_or Reads variable.input (Gives variable.value)

abbrev pub seen : Found → Use
seen found.Null = Gives null
seen (found.Plain v) = Gives v.now
seen (found.Reads input) = Reads input
