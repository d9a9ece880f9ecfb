-- What each mark writes, between operands and before one (after the SNOBOL4 book, Griswold, Poage, Polonsky, 2nd ed., chapter 1; precedence and associativity are own).
use Rattle.std.specs.Prelude.{Bool, true, false, Option, Some, None}
use Rattle.std.specs.Option.{option_map}
use Rattle.sno_lexer.specs.declared.token.Mark.{Mark}
use Rattle.sno_lexer.specs.declared.token.Mark.TheVariants as mark
use Rattle.sno_expression.specs.declared.tree.BinaryOperator.{BinaryOperator}
use Rattle.sno_expression.specs.declared.tree.BinaryOperator.TheVariants as operator
use Rattle.sno_expression.specs.declared.tree.UnaryOperator.{UnaryOperator}
use Rattle.sno_expression.specs.declared.tree.UnaryOperator.TheVariants as unary
use Rattle.sno_expression.specs.declared.tree.IdentifierPrefix.TheVariants as prefix
use Rattle.sno_expression.specs.declared.tree.Prefix.{Prefix}
use Rattle.sno_expression.specs.declared.tree.Prefix.TheVariants.{OfOperand, OfIdentifier}

-- between two operands, with blanks round it
abbrev pub operator_of : Mark → Option BinaryOperator
operator_of mark.Dot = Some operator.Conditional
operator_of mark.Dollar = Some operator.Immediate
operator_of mark.Power = Some operator.Power
operator_of mark.Star = Some operator.Times
operator_of mark.Slash = Some operator.Over
operator_of mark.Plus = Some operator.Plus
operator_of mark.Minus = Some operator.Minus
operator_of mark.Bar = Some operator.Alternation
operator_of _ = None

-- directly before an operand
abbrev pub unary_of : Mark → Option UnaryOperator
unary_of mark.Plus = Some unary.Plus
unary_of mark.Minus = Some unary.Minus
unary_of mark.Dollar = Some unary.Indirect
unary_of mark.Dot = Some unary.Name
unary_of mark.At = Some unary.Cursor
unary_of mark.Tilde = Some unary.Not
unary_of mark.Question = Some unary.Query
unary_of _ = None

-- and before an operand or an identifier
abbrev pub prefix_of : Mark → Option Prefix
prefix_of mark.Ampersand = Some (OfIdentifier prefix.Keyword)
prefix_of mark.Star = Some (OfIdentifier prefix.Unevaluated)
prefix_of k = option_map OfOperand (unary_of k)

-- does the operator need a variable on its right
abbrev pub needs_variable : BinaryOperator → Bool
needs_variable o = elim o [ operator.Conditional ↦ true | operator.Immediate ↦ true | _ ↦ false ]

-- has the operand of the unary operator to be a variable
abbrev pub operand_is_variable : UnaryOperator → Bool
operand_is_variable o = elim o [ unary.Name ↦ true | unary.Cursor ↦ true | _ ↦ false ]
