-- How expressions are written: each before its operands, in parentheses (own).
use Rattle.std.specs.Prelude.{ℕ, List, [], ◌++◌, codes}
use Rattle.std.specs.Fmt.{signed_decimal}
use Rattle.sno_lexer.specs.declared.token.Constant.{Constant as Value}
use Rattle.sno_lexer.specs.declared.token.Constant.TheVariants.{Literal, Integer}
use Rattle.sno_expression.specs.declared.tree.BinaryOperator.{BinaryOperator}
use Rattle.sno_expression.specs.declared.tree.BinaryOperator.TheVariants as operator
use Rattle.sno_expression.specs.declared.tree.UnaryOperator.{UnaryOperator}
use Rattle.sno_expression.specs.declared.tree.UnaryOperator.TheVariants as unary
use Rattle.sno_expression.specs.Expressions.{Expression, Arguments, Identifier, Constant, Keyword, Unevaluated, Group, Call, TableItem, Unary, Binary, NoArguments, Omitted, Argument}

abbrev pub operator_text : BinaryOperator → List ℕ
operator_text operator.Concatenation = codes "cat"
operator_text operator.Conditional = codes "."
operator_text operator.Immediate = codes "$"
operator_text operator.Power = codes "**"
operator_text operator.Times = codes "*"
operator_text operator.Over = codes "/"
operator_text operator.Plus = codes "+"
operator_text operator.Minus = codes "-"
operator_text operator.Alternation = codes "|"

abbrev pub unary_text : UnaryOperator → List ℕ
unary_text unary.Plus = codes "unary+"
unary_text unary.Minus = codes "unary-"
unary_text unary.Indirect = codes "unary$"
unary_text unary.Name = codes "unary."
unary_text unary.Cursor = codes "unary@"
unary_text unary.Not = codes "unary~"
unary_text unary.Query = codes "unary?"

abbrev pub constant_text : Value → List ℕ
constant_text (Literal text) = codes "'" ++ text ++ codes "'"
constant_text (Integer number) = signed_decimal number

abbrev mutual
  pub expression_text : Expression → List ℕ
  expression_text (Identifier name) = name
  expression_text (Constant constant) = constant_text constant
  expression_text (Keyword name) = codes "&" ++ name
  expression_text (Unevaluated name) = codes "*" ++ name
  expression_text (Group inner) = codes "(group " ++ expression_text inner ++ codes ")"
  expression_text (Call name arguments) = codes "(call " ++ name ++ arguments_text arguments ++ codes ")"
  expression_text (TableItem name key) = codes "(item " ++ name ++ codes " " ++ expression_text key ++ codes ")"
  expression_text (Unary operator operand) = codes "(" ++ unary_text operator ++ codes " " ++ expression_text operand ++ codes ")"
  expression_text (Binary operator left right) =
      codes "(" ++ operator_text operator ++ codes " " ++ expression_text left ++ codes " " ++ expression_text right ++ codes ")"

  -- a blank before each argument
  pub arguments_text : Arguments → List ℕ
  arguments_text NoArguments = []
  arguments_text (Omitted before) = arguments_text before ++ codes " null"
  arguments_text (Argument before argument) = arguments_text before ++ codes " " ++ expression_text argument
