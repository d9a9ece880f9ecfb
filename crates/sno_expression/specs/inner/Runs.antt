-- What an operator joins, and a run of operators as a list.
use Rattle.std.specs.Prelude.{List, [], ◌∷◌}
use Rattle.sno_expression.specs.declared.tree.Pending.{Pending}
use Rattle.sno_expression.specs.declared.tree.Operands.{Operands, Operands'}
use Rattle.sno_expression.specs.Expressions.{Expression, Binary}
use Rattle.sno_expression.specs.Abstraction.{expression_of, spread}

abbrev pub left_of : Operands → Expression
left_of (Operands' l n run t) = expression_of l

abbrev pub right_of : Operands → Expression
right_of (Operands' l n run t) = spread run (expression_of t)

-- the tree of a run with this operand at its end
abbrev pub spread_all : List Pending → Expression → Expression
spread_all [] x = x
spread_all (j ∷ js) x = Binary j.operator (expression_of j.left) (spread_all js x)
