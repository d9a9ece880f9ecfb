-- What may be the child of an operator's node.
use Rattle.std.specs.Prelude.{Bool, nat_lt, nat_eq, ◌||◌, ◌&&◌}
use Rattle.sno_expression.specs.declared.tree.BinaryOperator.{BinaryOperator}
use Rattle.sno_expression.specs.Expressions.{precedence, is_right_associative}

-- may an operator's node be the right child of another's
abbrev pub binds_into_right : BinaryOperator → BinaryOperator → Bool
binds_into_right inner outer = nat_lt (precedence outer) (precedence inner) || (nat_eq (precedence inner) (precedence outer) && is_right_associative outer)
