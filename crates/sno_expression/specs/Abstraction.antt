-- The program's values by the definitions.
use Rattle.std.specs.Prelude.{Option, Some, None}
use Rattle.sno_lexer.specs.declared.token.Constant.TheVariants.{Literal, Integer}
use Rattle.sno_expression.specs.declared.tree.Expression.{Expression as AnExpression}
use Rattle.sno_expression.specs.declared.tree.Expression.TheVariants as tree
use Rattle.sno_expression.specs.declared.tree.Arguments.{Arguments as SomeArguments}
use Rattle.sno_expression.specs.declared.tree.Arguments.TheVariants as args
use Rattle.sno_expression.specs.declared.tree.Operands.{Operands', Row_of-Pending, end_of-Pending, more_of-Pending}
use Rattle.sno_expression.specs.Expressions.{Expression, Arguments, Identifier, Constant, Keyword, Unevaluated, Group, Call, TableItem, Unary, Binary, NoArguments, Omitted, Argument}

abbrev mutual
  pub expression_of : AnExpression → Expression
  expression_of (tree.Identifier n) = Identifier n
  expression_of (tree.Literal n) = Constant (Literal n)
  expression_of (tree.Integer i) = Constant (Integer i)
  expression_of (tree.Keyword n) = Keyword n
  expression_of (tree.Unevaluated n) = Unevaluated n
  expression_of (tree.Group' p t) = Group (expression_of t)
  expression_of (tree.Call' p n a) = Call n (arguments_of a)
  expression_of (tree.TableItem' p n t) = TableItem n (expression_of t)
  expression_of (tree.Unary' s p t) = Unary s (expression_of t)
  expression_of (tree.Binary' o p (Operands' l n run t)) = Binary o (expression_of l) (spread run (expression_of t))

  -- a run of operators, each in the right operand of the one before
  pub spread : {n : _} → Row_of-Pending n → Expression → Expression
  spread end_of-Pending x = x
  spread (more_of-Pending l o rest) x = Binary o (expression_of l) (spread rest x)

  pub arguments_of : SomeArguments → Arguments
  arguments_of args.NoArguments = NoArguments
  arguments_of (args.Omitted' p a) = Omitted (arguments_of a)
  arguments_of (args.Argument' p a q t) = Argument (arguments_of a) (expression_of t)

abbrev pub expressions_of : Option AnExpression → Option Expression
expressions_of None = None
expressions_of (Some t) = Some (expression_of t)
