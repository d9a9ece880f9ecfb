-- What a reading tells beside its tree: where a variable is lacking, and whether the token at which it stops would be taken
-- with other blanks. A place is told by the number of tokens from it on, and 0 stands for none.
use Rattle.std.specs.Prelude.{ℕ, ◌+◌, nat_le, Bool, true, false, List, [], ◌∷◌, Option, Some, None, is_some, length, ◌&&◌, not, if◌then◌else◌}
use Rattle.sno_lexer.specs.declared.token.Mark.TheVariants as mark
use Rattle.sno_lexer.specs.declared.token.Token.{Token}
use Rattle.sno_lexer.specs.declared.token.TokenKind.{TokenKind}
use Rattle.sno_lexer.specs.declared.token.TokenKind.TheVariants as token
use Rattle.sno_expression.specs.Expressions.{Expression, Identifier}
use Rattle.sno_expression.specs.Marks.{prefix_of}
use Rattle.sno_expression.specs.inner.Reading.{Hole, Begin, fill, Stack, Due, Prefixed, Named, Whole, State, At}
use Rattle.sno_expression.specs.inner.Reading.{close, go_on, closed, after_prefix, read, result, start, opens_bracket, variable_due}

-- the place further left: more tokens are left there
abbrev pub most : ℕ → ℕ → ℕ
most a b = if nat_le a b then b else a

abbrev pub begins_variable : TokenKind → Bool
begins_variable (token.Identifier n) = true
begins_variable (token.Mark mark.Dollar) = true
begins_variable _ = false

-- the place that a token shows to lack a variable, with n tokens left from the token on: an element that should be one and is none
-- is seen where it begins, or where its identifier opens a bracket
abbrev pub lack_at : State → Token → ℕ → ℕ
lack_at (At st (Due h)) t n = if variable_due h && not (begins_variable t.kind) then n else 0
lack_at (At st (Named h f)) t n = if variable_due h && opens_bracket t.blank_before t.kind then n + 1 else 0
lack_at (At st spot) t n = 0

-- does the token begin an operand
abbrev pub begins : Bool → TokenKind → Bool
begins a (token.Identifier n) = true
begins a (token.Constant c) = true
begins a token.Open = true
begins false (token.Mark m) = is_some (prefix_of m)
begins a k = false

-- is the token taken after an operand with some blanks round it; w tells it of one that opens a bracket
abbrev pub goes_on : Stack → Expression → Bool → TokenKind → Bool
goes_on st t w (token.Mark m) = true
goes_on st t w token.OpenAngle = w
goes_on st t w k = is_some (go_on st t true false k)

abbrev pub onward : Bool → Stack → Expression → Bool → TokenKind → Bool
onward alone st t w k = if closed alone st then w else goes_on st t w k

abbrev pub due_fits : Stack → Hole → TokenKind → Bool
due_fits st Begin token.Comma = is_some (close st None token.Comma)
due_fits st Begin token.Close = is_some (close st None token.Close)
due_fits st h k = begins false k

-- is the token taken with some blanks round it
abbrev pub fits_at : Bool → State → TokenKind → Bool
fits_at alone (At st (Due h)) k = due_fits st h k
fits_at alone (At st (Prefixed h w)) k = is_some (after_prefix st h w false k)
fits_at alone (At st (Named h n)) k = onward alone st (fill h (Identifier n)) (opens_bracket false k) k
fits_at alone (At st (Whole t)) k = onward alone st t false k

-- the tree, where one is complete when a token is not taken or there are no more; the tokens that are left; the leftmost
-- place that lacks a variable; and whether the token would be taken with other blanks
pub data Told : Type 0 where
  Tells : Option Expression → List Token → ℕ → Bool → Told

abbrev pub with_lack : ℕ → Told → Told
with_lack m (Tells t rest n b) = Tells t rest (most m n) b

abbrev pub then_tell : Option State → Told → ℕ → (State → Told) → Told
then_tell None stop m on = stop
then_tell (Some s) stop m on = with_lack m (on s)

abbrev pub told : Bool → State → List Token → Told
told alone s [] = Tells (result s) [] 0 false
told alone s (t ∷ ts) =
    then_tell (read alone s t) (Tells (result s) (t ∷ ts) 0 (fits_at alone s t.kind)) (lack_at s t (length (t ∷ ts))) (λ v. told alone v ts)

-- one expression, or one element
abbrev pub telling : Bool → List Token → Told
telling alone ts = told alone start ts
