-- Functions as DEFINE(prototype, entry) says them (the SNOBOL4 book, chapter 4; faults and their order are own).
use Rattle.std.specs.Prelude.{ℕ, List, [], ◌∷◌, ok_or, Result, Ok}
use Rattle.sno_text.specs.declared.fault.Fault.{Fault}
use Rattle.sno_text.specs.declared.fault.Fault.TheVariants as fault
use Rattle.sno_value.specs.declared.value.Value.{Value}
use Rattle.sno_value.specs.Values.{text_of}
use Rattle.sno_declarations.specs.declared.prototype.Prototype.{Prototype}
use Rattle.sno_declarations.specs.declared.definition.Definition.{Definition}
use Rattle.sno_declarations.specs.Prototypes.{prototype_of}
use Rattle.sno_declarations.specs.Arguments.{go_on}

abbrev pub prototype_in : Value → Result Prototype Fault
prototype_in v = go_on (ok_or (text_of v) fault.WrongType) (λ text. ok_or (prototype_of text) fault.Prototype)

-- a null entry stands for the function's name
abbrev pub entry_in : List ℕ → Value → Result (List ℕ) Fault
entry_in name v = go_on (ok_or (text_of v) fault.WrongType) (λ label. Ok (elim label [ [] ↦ name | c ∷ cs ↦ c ∷ cs ]))

abbrev pub definition_in : Value → Value → Result Definition Fault
definition_in prototype entry = go_on (prototype_in prototype) (λ p. go_on (entry_in p.name entry) (λ label. Ok (record { prototype = p; entry = label })))
