-- How a run of operators is written.
use Rattle.std.specs.Prelude.{ℕ, List, [], ◌∷◌, ◌++◌, codes}
use Rattle.sno_expression.specs.declared.tree.Pending.{Pending}
use Rattle.sno_expression.specs.Abstraction.{expression_of}
use Rattle.programs.specs.inner.Trees.{operator_text, expression_text}

-- an operator with its left operand
abbrev pub left_text : Pending → List ℕ
left_text j = codes "(" ++ operator_text j.operator ++ codes " " ++ expression_text (expression_of j.left) ++ codes " "

abbrev pub lefts_text : List Pending → List ℕ
lefts_text [] = []
lefts_text (j ∷ js) = left_text j ++ lefts_text js

-- the end of each
abbrev pub ends_text : List Pending → List ℕ
ends_text [] = []
ends_text (j ∷ js) = ends_text js ++ codes ")"
