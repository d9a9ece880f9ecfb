-- What holds of readings.
use Rattle.std.specs.Prelude.{◌≡◌, ◌↔◌, ℕ, Bool, List, Some}
use Rattle.sno_lexer.specs.declared.token.Token.{Token}
use Rattle.sno_expression.specs.Expressions.{Expression}
use Rattle.sno_expression.specs.Spelling.{SpellsTo}
use Rattle.sno_expression.specs.inner.Reading.{Suits, Stops}
use Rattle.sno_expression.specs.inner.Telling.{Tells, telling}

-- an expression, or one element, is read exactly where it is spelled
abbrev pub ReadsExactly : Type 0
ReadsExactly = (alone : Bool) (ts rest : List Token) (t : Expression) → Stops alone rest →
    ((n : ℕ) × (b : Bool) × (telling alone ts ≡ Tells (Some t) rest n b)) ↔ (Suits alone t × ((b : Bool) × SpellsTo b t ts rest))
