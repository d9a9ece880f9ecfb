-- Operands that one token tells, the first and those behind it: as many steps of the reading, taken at once.
use Rattle.std.specs.Prelude.{ℕ, Bool, true, false, not, ◌&&◌, ◌||◌, List, [], ◌∷◌, Option, Some, None, if◌then◌else◌}
use Rattle.std.specs.Option.{option_map}
use Rattle.sno_lexer.specs.declared.token.Token.{Token}
use Rattle.sno_lexer.specs.declared.token.TokenKind.{TokenKind}
use Rattle.sno_lexer.specs.declared.token.TokenKind.TheVariants as token
use Rattle.sno_expression.specs.Expressions.{Expression, Identifier, Constant}
use Rattle.sno_expression.specs.declared.tree.BinaryOperator.{BinaryOperator}
use Rattle.sno_expression.specs.declared.tree.BinaryOperator.TheVariants.{Concatenation}
use Rattle.sno_expression.specs.Marks.{operator_of, needs_variable}
use Rattle.sno_expression.specs.inner.Reading.{opens_bracket}
use Rattle.sno_expression.specs.inner.Telling.{begins_variable}

-- a name behind which no bracket comes, or a constant
abbrev pub is_apart : List Token → Bool
is_apart [] = true
is_apart (t ∷ ts) = not (opens_bracket false t.kind)

abbrev pub plain : TokenKind → List Token → Option Expression
plain (token.Identifier n) ts = if is_apart ts then Some (Identifier n) else None
plain (token.Constant c) ts = Some (Constant c)
plain k ts = None

-- the operand that comes next behind another, and how many tokens lead to what follows it
pub data Joint : Type 0 where
  Joins : BinaryOperator → Expression → ℕ → Joint

abbrev pub operand_by : BinaryOperator → ℕ → Option Expression → Option Joint
operand_by o n q = option_map (λ x. Joins o x n) q

abbrev pub marked_operand : Option BinaryOperator → List Token → Option Joint
marked_operand (Some o) (t ∷ ts) = if not t.blank_before || (needs_variable o && not (begins_variable t.kind)) then None else operand_by o 2 (plain t.kind ts)
marked_operand o ts = None

abbrev pub joined_by : Bool → TokenKind → List Token → Option Joint
joined_by a (token.Mark m) ts = if not a then None else marked_operand (operator_of m) ts
joined_by a k ts = operand_by Concatenation 1 (plain k ts)

abbrev pub next_operand : List Token → Option Joint
next_operand [] = None
next_operand (t ∷ ts) = if not t.blank_before then None else joined_by t.blank_after t.kind ts
