-- How statements are written: label, subject, pattern, object and goto, with `-` for what a statement has not (own).
use Rattle.std.specs.Prelude.{ℕ, List, ◌++◌, codes, Option, Some, None}
use Rattle.sno_expression.specs.declared.tree.UnaryOperator.TheVariants.{Indirect}
use Rattle.sno_expression.specs.Expressions.{Expression, Unary}
use Rattle.sno_statement.specs.Statements.{Target, To, Computed, Goto, NoGoto, Always, OnSuccess, OnFailure, OnBoth, Object, NoObject, NullObject, ValueObject, Body, NoBody, Does, Statement, Says}
use Rattle.programs.specs.inner.Trees.{expression_text}

abbrev pub label_text : Option (List ℕ) → List ℕ
label_text None = codes "-"
label_text (Some label) = label

abbrev pub target_text : Target → List ℕ
target_text (To label) = label
target_text (Computed element) = expression_text (Unary Indirect element)

abbrev pub goto_text : Goto → List ℕ
goto_text NoGoto = codes "-"
goto_text (Always target) = codes "(: " ++ target_text target ++ codes ")"
goto_text (OnSuccess target) = codes "(:S " ++ target_text target ++ codes ")"
goto_text (OnFailure target) = codes "(:F " ++ target_text target ++ codes ")"
goto_text (OnBoth success failure) =
    codes "(:S " ++ target_text success ++ codes " :F " ++ target_text failure ++ codes ")"

abbrev pub pattern_text : Option Expression → List ℕ
pattern_text None = codes "-"
pattern_text (Some pattern) = expression_text pattern

abbrev pub object_text : Object → List ℕ
object_text NoObject = codes "-"
object_text NullObject = codes "(=)"
object_text (ValueObject value) = codes "(= " ++ expression_text value ++ codes ")"

abbrev pub body_text : Body → List ℕ
body_text NoBody = codes "- - -"
body_text (Does subject pattern object) =
    expression_text subject ++ codes " " ++ pattern_text pattern ++ codes " " ++ object_text object

abbrev pub statement_text : Option (List ℕ) → Statement → List ℕ
statement_text label (Says body goto) = label_text label ++ codes " " ++ body_text body ++ codes " " ++ goto_text goto
