-- Examples, by computing: what the tokens of a statement are read as, and where their leftmost fault stands.
use Rattle.std.{proofs.Common.{◌≡◌, ℕ, List, [], ◌∷◌, refl}, specs.Prelude.{Bool, true, false, Option, Some, None}}
use Rattle.sno_lexer.{specs.declared.token.Mark.{Mark}, specs.declared.token.Mark.TheVariants.{Slash, Plus, Dot, Dollar, Ampersand}, specs.declared.token.Outcome.{Outcome}, specs.declared.token.Token.{Token}}
use Rattle.sno_lexer.{specs.declared.token.Outcome.TheVariants.{Success, Failure}, specs.declared.token.Part.TheVariants.{Equals, Colon, On, Label}}
use Rattle.sno_lexer.specs.declared.token.Constant.TheVariants as constant
use Rattle.sno_lexer.specs.declared.token.TokenKind.TheVariants as token
use Rattle.sno_expression.{specs.Spelling.{spaced}, specs.Expressions.{Expression, Identifier, Constant, Call, Unary, NoArguments, Omitted, Argument}}
use Rattle.sno_expression.specs.declared.tree.UnaryOperator.TheVariants as unary
use Rattle.sno_statement.{specs.declared.fault.Fault.{Fault}, specs.declared.fault.FaultKind.TheVariants.{MissingBlank, NoVariable}, specs.inner.Faults.{fault}}
use Rattle.sno_statement.{specs.Statements.{Target, To, Computed, NoGoto, OnSuccess, OnBoth, NullObject, NoBody, Does, Statement, Says}, specs.inner.Parsing.{FaultAt, stated, statement_in}}

-- tokens, each with whether a blank stands before it, and where it matters whether one follows; every constant is the
-- literal '1'
abbrev name : Bool → ℕ → Token
name b c = spaced b false (token.Identifier (c ∷ []))

abbrev one : Bool → Token
one b = spaced b false (token.Constant (constant.Literal (49 ∷ [])))

abbrev mark : Bool → Bool → Mark → Token
mark b a m = spaced b a (token.Mark m)

abbrev equals : Bool → Bool → Token
equals b a = spaced b a (token.Part Equals)

abbrev colon : Bool → Token
colon b = spaced b false (token.Part Colon)

abbrev label : ℕ → Token
label c = spaced false false (token.Part (Label (c ∷ [])))

abbrev on : Bool → Outcome → Token
on b o = spaced b false (token.Part (On o))

abbrev variable : ℕ → Expression
variable c = Identifier (c ∷ [])

abbrev unit : Expression
unit = Constant (constant.Literal (49 ∷ []))

abbrev to : ℕ → Target
to c = To (c ∷ [])

abbrev answer : List Token → Option Statement × Option Fault
answer ts = (stated (statement_in ts), fault ts)

-- X + 1: touching, it would begin a pattern
blanks_round_plus : fault (name true 88 ∷ mark true true Plus ∷ one true ∷ []) ≡ Some (FaultAt 1 MissingBlank)
blanks_round_plus = refl

-- :F(M)S(L)
failure_first : answer (colon true ∷ on false Failure ∷ spaced false false token.Open ∷ label 77 ∷ spaced false false token.Close ∷ on false Success ∷ spaced false false token.Open ∷ label 76 ∷ spaced false false token.Close ∷ []) ≡ (Some (Says NoBody (OnBoth (to 76) (to 77))), None)
failure_first = refl

-- :S( $A('1') )
computed_call : answer (colon true ∷ on false Success ∷ spaced false false token.Open ∷ mark true false Dollar ∷ name false 65 ∷ spaced false false token.Open ∷ one false ∷ spaced false false token.Close ∷ spaced true false token.Close ∷ []) ≡ (Some (Says NoBody (OnSuccess (Computed (Call (65 ∷ []) (Argument NoArguments unit))))), None)
computed_call = refl

-- :($ A)
computed_apart : fault (colon true ∷ spaced false false token.Open ∷ mark false true Dollar ∷ name true 65 ∷ spaced false false token.Close ∷ []) ≡ Some (FaultAt 2 MissingBlank)
computed_apart = refl

-- 'A' = 1 +
constant_set : fault (one true ∷ equals true true ∷ one true ∷ mark true true Plus ∷ []) ≡ Some (FaultAt 0 NoVariable)
constant_set = refl

-- X P . F(V) /
assigned_call : fault (name true 88 ∷ name true 80 ∷ mark true true Dot ∷ name true 70 ∷ spaced false false token.Open ∷ name false 86 ∷ spaced false false token.Close ∷ mark true false Slash ∷ []) ≡ Some (FaultAt 3 NoVariable)
assigned_call = refl

-- &X P = 1
keyword_with_pattern : fault (mark true false Ampersand ∷ name false 88 ∷ name true 80 ∷ equals true true ∷ one true ∷ []) ≡ Some (FaultAt 0 NoVariable)
keyword_with_pattern = refl

-- $F() P =
indirect_call_replaced : answer (mark true false Dollar ∷ name false 70 ∷ spaced false false token.Open ∷ spaced false false token.Close ∷ name true 80 ∷ equals true true ∷ []) ≡ (Some (Says (Does (Unary unary.Indirect (Call (70 ∷ []) (Omitted NoArguments))) (Some (variable 80)) NullObject) (NoGoto)), None)
indirect_call_replaced = refl
