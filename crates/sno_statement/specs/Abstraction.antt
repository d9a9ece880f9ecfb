-- The program's values by the definitions.
use Rattle.std.specs.Prelude.{◌≡◌, List, Option, Some, None, Result, Ok, Err}
use Rattle.sno_lexer.specs.declared.token.Token.{Token}
use Rattle.sno_expression.specs.Abstraction.{expression_of, expressions_of}
use Rattle.sno_statement.specs.declared.fault.Fault.{Fault}
use Rattle.sno_statement.specs.declared.statement.Target.{Target as ATarget}
use Rattle.sno_statement.specs.declared.statement.Target.TheVariants as target
use Rattle.sno_statement.specs.declared.statement.Goto.{Goto as AGoto}
use Rattle.sno_statement.specs.declared.statement.Goto.TheVariants as goto
use Rattle.sno_statement.specs.declared.statement.Object.{Object as AnObject}
use Rattle.sno_statement.specs.declared.statement.Object.TheVariants as object
use Rattle.sno_statement.specs.declared.statement.Body.{Body as ABody}
use Rattle.sno_statement.specs.declared.statement.Statement.{Statement as AStatement}
use Rattle.sno_statement.specs.Statements.{Target, To, Computed, Goto, NoGoto, Always, OnSuccess, OnFailure, OnBoth, Object, NoObject, NullObject, ValueObject, Body, NoBody, Does, Statement, Says}
use Rattle.sno_statement.specs.Spelling.{Spells}
use Rattle.sno_statement.specs.Lacking.{StatementHasVariables}
use Rattle.sno_statement.specs.Faults.{IsLeftmostFault}

abbrev pub target_of : ATarget → Target
target_of (target.Label l) = To l
target_of (target.Computed t) = Computed (expression_of t)

abbrev pub goto_of : AGoto → Goto
goto_of goto.Next = NoGoto
goto_of (goto.Always t) = Always (target_of t)
goto_of (goto.OnSuccess t) = OnSuccess (target_of t)
goto_of (goto.OnFailure t) = OnFailure (target_of t)
goto_of (goto.OnBoth s f) = OnBoth (target_of s) (target_of f)

abbrev pub object_of : AnObject → Object
object_of object.Nothing = NoObject
object_of object.Null = NullObject
object_of (object.Value t) = ValueObject (expression_of t)

abbrev pub body_of : Option ABody → Body
body_of None = NoBody
body_of (Some b) = Does (expression_of b.subject) (expressions_of b.pattern) (object_of b.object)

abbrev pub statement_of : AStatement → Statement
statement_of s = Says (body_of s.body) (goto_of s.goto)

-- a statement that was read into, or why it was not
abbrev pub read_into : {A : Type 0} → AStatement → Result A Fault → Result AStatement Fault
read_into s (Ok _) = Ok s
read_into s (Err f) = Err f

-- the statement that the tokens spell, with a variable in each place that needs one, and the only one that they spell; or
-- their leftmost fault
abbrev pub Parsed : List Token → Result AStatement Fault → Type 0
Parsed ts (Ok s) =
    StatementHasVariables ts (statement_of s) × Spells (statement_of s) ts × ((t : Statement) → Spells t ts → t ≡ statement_of s)
Parsed ts (Err f) = IsLeftmostFault ts f
