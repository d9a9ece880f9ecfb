-- Calls of functions that were defined (the SNOBOL4 book, chapter 4; that setting and restoring reads and writes nothing is
-- own).
use Rattle.std.specs.Prelude.{ℕ, List, [], map, ◌∷◌, ◌++◌, Option, None, Some}
use Rattle.sno_value.specs.declared.value.Value.{Value}
use Rattle.sno_value.specs.Values.{null}
use Rattle.sno_declarations.specs.declared.prototype.Prototype.{Prototype}
use Rattle.sno_declarations.specs.Prototypes.{names_of}
use Rattle.sno_declarations.specs.declared.definition.Definition.{Definition}
use Rattle.sno_variables.specs.Variables.{Variables, value_of}
use Rattle.sno_variables.specs.Bindings.{Bindings, paired, assigned}
use Rattle.sno_store.specs.CallFrames.{CallFrame}
use Rattle.sno_store.specs.declared.store.Store.{Store as State}

-- what a call gives the function's variables
abbrev pub bindings_of : Prototype → List Value → Bindings
bindings_of p arguments = (p.name, null) ∷ (paired p.parameters arguments ++ paired p.locals [])

-- what is kept of a call: the function's name, the values that its variables have before, and the statement that calls
abbrev pub level_with : Definition → ℕ → Variables → CallFrame
level_with d statement vs = record { name = d.prototype.name; saved = map (λ name. (name, value_of name vs)) (names_of d.prototype); statement = statement }

-- a function is called
abbrev pub call_entered : Definition → List Value → State → State
call_entered d arguments s = record s { variables = assigned (bindings_of d.prototype arguments) s.variables; levels = level_with d s.keywords.statement s.variables ∷ s.levels }

-- what the innermost call saved, and the statement that called
abbrev pub saved_by : List CallFrame → Bindings
saved_by [] = []
saved_by (level ∷ levels) = level.saved

abbrev pub statement_of : List CallFrame → Option ℕ
statement_of [] = None
statement_of (level ∷ levels) = Some level.statement

-- back at the statement that called, with the values of before
abbrev pub call_left : State → State
call_left s = elim s.levels [
  | [] ↦ s
  | level ∷ levels ↦
      record s { variables = assigned level.saved s.variables; keywords = record (s.keywords) { statement = level.statement }; levels = levels }
]

-- what the function gives: the value of its name
abbrev pub given_back : State → Value
given_back s = elim s.levels [ [] ↦ null | level ∷ levels ↦ value_of level.name s.variables ]
