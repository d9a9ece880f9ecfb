-- Parts of the definitions by names of their own: for the code and for proofs.
use Rattle.std.specs.Prelude.{ℕ, List, [], ◌∷◌, codes, bytes_eq, Option, Some, None, if◌then◌else◌}
use Rattle.sno_value.specs.declared.value.Value.{Value}
use Rattle.sno_value.specs.Values.{null}
use Rattle.sno_variables.specs.Variables.{Variables, value_of}
use Rattle.sno_store.specs.CallFrames.{CallFrame}
use Rattle.sno_store.specs.declared.keyword.Keyword.{Keyword}
use Rattle.sno_store.specs.declared.keyword.Keyword.TheVariants.{StatementCount, StatementNumber, FunctionLevel}

abbrev pub value_given : List CallFrame → Variables → Value
value_given levels vs = elim levels [ [] ↦ null | level ∷ others ↦ value_of level.name vs ]

-- of the keywords that are only read
abbrev pub read_keyword_named : List ℕ → Option Keyword
read_keyword_named name =
    if bytes_eq name (codes "STCOUNT") then Some StatementCount
    else if bytes_eq name (codes "STNO") then Some StatementNumber
    else if bytes_eq name (codes "FNCLEVEL") then Some FunctionLevel
    else None
