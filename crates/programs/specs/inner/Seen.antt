-- What is seen of a run: a line for each request, and a last one for how the job ended (own).
use Rattle.std.specs.Prelude.{ℕ, List, ◌++◌, codes, decimal}
use Rattle.sno_text.specs.Faults.{fault_name}
use Rattle.interaction.specs.declared.request.Act.{Act}
use Rattle.interaction.specs.declared.request.Act.TheVariants.{Read, Write, Endfile, Rewind}
use Rattle.interaction.specs.declared.request.Request.{Request}
use Rattle.sno_run.specs.declared.ending.Ending.{Ending}
use Rattle.sno_run.specs.declared.ending.Ending.TheVariants.{Normal, StatementLimit, MatchLimit, Fault, Memory}

abbrev pub act_text : Act → List ℕ
act_text (Read unit) = codes " READ " ++ decimal unit
act_text (Write unit line) = codes " WRITE " ++ decimal unit ++ codes " '" ++ line ++ codes "'"
act_text (Endfile unit) = codes " ENDFILE " ++ decimal unit
act_text (Rewind unit) = codes " REWIND " ++ decimal unit

abbrev pub request_line : Request → List ℕ
request_line request = decimal request.statement ++ act_text request.act ++ codes "\n"

-- a fault and the limit of steps are told with the statement at hand
abbrev pub ending_text : Ending → List ℕ
ending_text Normal = codes "NORMAL"
ending_text StatementLimit = codes "STATEMENT LIMIT"
ending_text (MatchLimit statement) = codes "MATCH LIMIT AT " ++ decimal statement
ending_text (Fault fault statement) = codes "FAULT " ++ fault_name fault ++ codes " AT " ++ decimal statement
ending_text Memory = codes "MEMORY"

abbrev pub end_line : Ending → ℕ → ℕ → List ℕ
end_line ending statements turns =
    codes "END " ++ ending_text ending ++ codes " AFTER " ++ decimal statements ++ codes " IN " ++ decimal turns ++ codes " TURNS\n"
