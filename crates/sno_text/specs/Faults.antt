-- The words for faults in printouts (own).
use Rattle.std.specs.Prelude.{ℕ, List, codes}
use Rattle.sno_text.specs.declared.fault.Fault.{Fault}
use Rattle.sno_text.specs.declared.fault.Fault.TheVariants.{WrongType, Arithmetic, Null, Function, Prototype, Keyword, Entry, Negative, Length, Level, Goto, Label, Depth, Format, BadUnit}

abbrev pub fault_name : Fault → List ℕ
fault_name WrongType = codes "TYPE"
fault_name Arithmetic = codes "ARITH"
fault_name Null = codes "NULL"
fault_name Function = codes "FUNCTION"
fault_name Prototype = codes "PROTOTYPE"
fault_name Keyword = codes "KEYWORD"
fault_name Entry = codes "ENTRY"
fault_name Negative = codes "NEGATIVE"
fault_name Length = codes "LENGTH"
fault_name Level = codes "LEVEL"
fault_name Goto = codes "GOTO"
fault_name Label = codes "LABEL"
fault_name Depth = codes "DEPTH"
fault_name Format = codes "FORMAT"
fault_name BadUnit = codes "UNIT"
