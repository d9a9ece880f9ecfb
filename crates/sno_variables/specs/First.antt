-- The variables that have something at first (the SNOBOL4 book, chapters 1 and 2; units and lengths are own).
use Rattle.std.specs.Prelude.{false, [], codes}
use Rattle.sno_text.specs.Patterns as patterns
use Rattle.sno_value.specs.declared.value.Value.TheVariants.{Pattern}
use Rattle.sno_variables.specs.Variables.{Variables, given, reading, writing}

-- seven hold patterns
abbrev pub with_patterns : Variables → Variables
with_patterns vs =
    given (codes "SUCCEED") (Pattern patterns.Succeed)
    (given (codes "REM") (Pattern patterns.Rem) (given (codes "FENCE") (Pattern patterns.Fence)
    (given (codes "FAIL") (Pattern patterns.Fail) (given (codes "BAL") (Pattern patterns.Bal)
    (given (codes "ARB") (Pattern patterns.Arb) (given (codes "ABORT") (Pattern patterns.Abort) vs))))))

-- and three are associated: INPUT with unit 5, OUTPUT with unit 6, PUNCH with unit 7
abbrev pub first_variables : Variables
first_variables =
    writing (codes "PUNCH") (record { unit = 7; format = record { characters = 80; blank = false } })
    (writing (codes "OUTPUT") (record { unit = 6; format = record { characters = 132; blank = false } })
    (reading (codes "INPUT") (record { unit = 5; most = 1024 }) (with_patterns [])))
