-- The names of some primitives by names of their own: for the code.
use Rattle.std.specs.Prelude.{ℕ, List, codes, bytes_eq, Option, Some, None, if◌then◌else◌}
use Rattle.sno_value.specs.declared.primitive.Primitive.{Primitive}
use Rattle.sno_value.specs.declared.primitive.Primitive.TheVariants as primitive
use Rattle.sno_value.specs.declared.primitive.Comparison.TheVariants.{Equal, NotEqual, Less, LessOrEqual, Greater, GreaterOrEqual}
use Rattle.sno_value.specs.declared.primitive.NumberPattern.TheVariants.{Len, Pos, RPos, Tab, RTab}
use Rattle.sno_value.specs.declared.primitive.CharacterPattern.TheVariants.{Span, Break, Any, NotAny}

abbrev pub pattern_function : List ℕ → Option Primitive
pattern_function name =
    if bytes_eq name (codes "LEN") then Some (primitive.OfNumber Len)
    else if bytes_eq name (codes "POS") then Some (primitive.OfNumber Pos)
    else if bytes_eq name (codes "RPOS") then Some (primitive.OfNumber RPos)
    else if bytes_eq name (codes "TAB") then Some (primitive.OfNumber Tab)
    else if bytes_eq name (codes "RTAB") then Some (primitive.OfNumber RTab)
    else if bytes_eq name (codes "SPAN") then Some (primitive.OfCharacters Span)
    else if bytes_eq name (codes "BREAK") then Some (primitive.OfCharacters Break)
    else if bytes_eq name (codes "ANY") then Some (primitive.OfCharacters Any)
    else if bytes_eq name (codes "NOTANY") then Some (primitive.OfCharacters NotAny)
    else if bytes_eq name (codes "ARBNO") then Some primitive.Arbno
    else None

abbrev pub comparison_function : List ℕ → Option Primitive
comparison_function name =
    if bytes_eq name (codes "EQ") then Some (primitive.Compare Equal)
    else if bytes_eq name (codes "NE") then Some (primitive.Compare NotEqual)
    else if bytes_eq name (codes "LT") then Some (primitive.Compare Less)
    else if bytes_eq name (codes "LE") then Some (primitive.Compare LessOrEqual)
    else if bytes_eq name (codes "GT") then Some (primitive.Compare Greater)
    else if bytes_eq name (codes "GE") then Some (primitive.Compare GreaterOrEqual)
    else pattern_function name
