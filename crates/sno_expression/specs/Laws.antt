-- What holds of trees and tokens.
use Rattle.std.specs.Prelude.{◌≡◌, List}
use Rattle.sno_lexer.specs.declared.token.Token.{Token}
use Rattle.sno_expression.specs.Expressions.{Expression}
use Rattle.sno_expression.specs.Spelling.{Spells}

-- tokens spell at most one tree
abbrev pub OneExpression : Type 0
OneExpression = (t u : Expression) (ts : List Token) → Spells t ts → Spells u ts → t ≡ u
