-- What holds of an open spine, which is a list of operators with their left operands, the innermost last.
use Rattle.std.specs.Prelude.{Bool, true, false, List, [], ◌∷◌, ◌&&◌}
use Rattle.std.specs.List.{list_all}
use Rattle.sno_expression.specs.declared.tree.BinaryOperator.{BinaryOperator}
use Rattle.sno_expression.specs.declared.tree.Expression.{Expression}
use Rattle.sno_expression.specs.declared.tree.Expression.TheVariants as tree
use Rattle.sno_expression.specs.declared.tree.Pending.{Pending}
use Rattle.sno_expression.specs.inner.Levels.{binds_into_right}

-- may the operator stand right under each of these
abbrev pub is_under_all : BinaryOperator → List Pending → Bool
is_under_all o js = list_all (λ j. binds_into_right o j.operator) js

-- each may stand right under all around it
abbrev pub is_ordered : List Pending → Bool
is_ordered [] = true
is_ordered (j ∷ js) = list_all (λ k. binds_into_right k.operator j.operator) js && is_ordered js

-- the last operand is one element
abbrev pub is_element : Expression → Bool
is_element (tree.Binary' o p all) = false
is_element _ = true
