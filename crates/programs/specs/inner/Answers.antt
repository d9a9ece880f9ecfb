-- What is shown of a program that is read or refused (own).
use Rattle.std.specs.Prelude.{ℕ, ◌+◌, ◌==◌, List, [], ◌∷◌, ◌++◌, codes, decimal, slice_get, Option, Some, None, Result, Ok, Err, if◌then◌else◌}
use Rattle.mon_text.specs.declared.stop.Stop.{Stop}
use Rattle.mon_text.specs.declared.stop.Stop.TheVariants.{Refused, Memory}
use Rattle.sno_cards.specs.declared.refusal.SyntaxError.{SyntaxError}
use Rattle.sno_cards.specs.Codes.{code_symbol}
use Rattle.sno_statement.specs.declared.statement.Statement.{Statement}
use Rattle.sno_statement.specs.Abstraction.{statement_of}
use Rattle.sno_syntax.specs.declared.program.Program.{Program}
use Rattle.sno_syntax.specs.declared.start.Start.{Start}
use Rattle.sno_syntax.specs.declared.start.Start.TheVariants as start
use Rattle.sno_syntax.specs.Labels.{LabelList}
use Rattle.programs.specs.declared.reading.case.Form.{Form}
use Rattle.programs.specs.declared.reading.case.Form.TheVariants as forms
use Rattle.programs.specs.inner.Statements.{statement_text}

abbrev pub refusal_text : SyntaxError → List ℕ
refusal_text r =
    codes "REFUSED " ++ code_symbol r.code ++ codes " CARD " ++ decimal r.place.card
    ++ codes " COLUMN " ++ decimal r.place.column ++ codes "\n"

-- statements are counted from 0
abbrev pub start_text : Start → List ℕ
start_text (start.Statement index) = codes "start " ++ decimal index ++ codes "\n"
start_text start.End = codes "start END\n"

-- the label of the statement at an index, where the next of the labels is its
abbrev pub own_label : Option (List ℕ × ℕ) → ℕ → Option (List ℕ)
own_label None index = None
own_label (Some next) index = if next.1 == index then Some next.0 else None

-- how many labels are behind that statement then
abbrev pub passed : ℕ → Option (List ℕ × ℕ) → ℕ → ℕ
passed count None index = count
passed count (Some next) index = if next.1 == index then count + 1 else count

-- the statements from an index on, so many labels being behind
abbrev pub statements_from : LabelList → ℕ → ℕ → List Statement → List ℕ
statements_from labels count index [] = []
statements_from labels count index (s ∷ ss) =
    statement_text (own_label (slice_get labels count) index) (statement_of s) ++ codes "\n"
    ++ statements_from labels (passed count (slice_get labels count) index) (index + 1) ss

abbrev pub statements_text : Program → List ℕ
statements_text p = statements_from p.labels 0 0 p.statements.items

-- a program that is read is shown as the case has it: that it was, its statements and where it starts, or its statements
abbrev pub program_text : Form → Program → List ℕ
program_text forms.Verdicts p = codes "parsed\n"
program_text forms.Trees p = statements_text p ++ start_text p.start
program_text forms.Statements p = statements_text p

-- where memory ran out nothing is shown, and that is told
abbrev pub stop_text : Stop SyntaxError → List ℕ
stop_text (Refused refusal) = refusal_text refusal
stop_text Memory = []

abbrev pub answer_text : Form → Result Program (Stop SyntaxError) → List ℕ
answer_text form (Ok program) = program_text form program
answer_text form (Err stop) = stop_text stop
