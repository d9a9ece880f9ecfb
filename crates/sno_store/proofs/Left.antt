-- What the innermost call leaves, by whether there is one.
use Rattle.std.specs.Prelude.{List, [], ◌∷◌}
use Rattle.sno_variables.specs.Bindings.{assigned}
use Rattle.sno_store.specs.{CallFrames.{CallFrame}, declared.store.Store.{Store as State}}

abbrev pub left_by : List CallFrame → State → State
left_by frames s = elim frames [
  | [] ↦ s
  | level ∷ levels ↦
      record s { variables = assigned level.saved s.variables; keywords = record (s.keywords) { statement = level.statement }; levels = levels }
]
