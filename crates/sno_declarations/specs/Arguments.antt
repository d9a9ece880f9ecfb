-- The arguments of DEFINE, INPUT, OUTPUT, DETACH, ENDFILE and REWIND (the SNOBOL4 book, chapter 4, and what it says of input and output; units, limits, faults and
-- their order are own).
use Rattle.std.specs.Prelude.{ℕ, ℤ, pos, negsuc, nat_le, ◌&&◌, false, List, [], ◌∷◌, Option, Some, None, Result, Ok, Err, if◌then◌else◌}
use Rattle.sno_text.specs.declared.fault.Fault.{Fault}
use Rattle.sno_text.specs.declared.fault.Fault.TheVariants as fault
use Rattle.sno_value.specs.declared.value.Value.{Value}
use Rattle.sno_value.specs.Values.{is_null, text_of, number_of}
use Rattle.sno_declarations.specs.Formats.{RecordFormat, format_of}
use Rattle.sno_declarations.specs.declared.association.Input.{Input}
use Rattle.sno_declarations.specs.declared.association.Output.{Output}
use Rattle.std.specs.Option.{ok_or, option_and_then}

-- goes on with what there is, if there is no fault before
abbrev pub go_on : {A B : Type 0} → Result A Fault → (A → Result B Fault) → Result B Fault
go_on read go = elim read [ Ok a ↦ go a | Err f ↦ Err f ]

-- the variable that a value names: any text but the null string
abbrev pub name_in : Value → Result (List ℕ) Fault
name_in v = go_on (ok_or (text_of v) fault.WrongType) (λ text. elim text [ [] ↦ Err fault.Null | c ∷ cs ↦ Ok (c ∷ cs) ])

abbrev pub number_within : ℕ → ℕ → ℤ → Option ℕ
number_within low high (pos n) = if nat_le low n && nat_le n high then Some n else None
number_within low high (negsuc n) = None

-- the unit that a value tells: 1 to 99
abbrev pub unit_in : Value → Result ℕ Fault
unit_in v = go_on (ok_or (number_of v) fault.WrongType) (λ z. ok_or (number_within 1 99 z) fault.BadUnit)

-- a null one stands for that of the usual association
abbrev pub unit_or : ℕ → Value → Result ℕ Fault
unit_or usual v = if is_null v then Ok usual else unit_in v

-- how many characters of a record are kept: 1 to 1,024, all if null
abbrev pub most_in : Value → Result ℕ Fault
most_in v = if is_null v then Ok 1024 else ok_or (option_and_then (number_within 1 1024) (number_of v)) fault.Format

-- how a text is cut into records: 1,024 characters each, if null
abbrev pub format_in : Value → Result RecordFormat Fault
format_in v = if is_null v then Ok (record { characters = 1024; blank = false }) else ok_or (option_and_then format_of (text_of v)) fault.Format

-- INPUT(name, unit, most) and OUTPUT(name, unit, format), beside the name
abbrev pub input_in : Value → Value → Result Input Fault
input_in unit most = go_on (unit_or 5 unit) (λ u. go_on (most_in most) (λ n. Ok (record { unit = u; most = n })))

abbrev pub output_in : Value → Value → Result Output Fault
output_in unit format = go_on (unit_or 6 unit) (λ u. go_on (format_in format) (λ f. Ok (record { unit = u; format = f })))
