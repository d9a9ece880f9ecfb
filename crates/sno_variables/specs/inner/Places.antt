-- Names, of which no two are equal.
use Rattle.std.specs.Prelude.{nat_eq}
use Rattle.std.specs.List.{IsDistinct}
use Rattle.std.specs.Map.{keys_of}
use Rattle.std.specs.Cmp.Lexicographic.{pointwise}
use Rattle.sno_variables.specs.Variables.{Variables}

abbrev pub AreDistinct : Variables → Type 0
AreDistinct vs = IsDistinct (pointwise nat_eq) (keys_of vs)
