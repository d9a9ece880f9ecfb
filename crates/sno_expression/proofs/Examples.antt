-- Examples, by computing.
use Rattle.std.{proofs.Common.{◌≡◌, ℕ, [], ◌∷◌, refl}, specs.Prelude.{Bool, true, false, Some}}
use Rattle.sno_lexer.{specs.declared.token.Mark.{Mark}, specs.declared.token.Token.{Token}, specs.declared.token.TokenKind.{TokenKind}}
use Rattle.sno_lexer.specs.declared.token.Mark.TheVariants as marks
use Rattle.sno_lexer.specs.declared.token.TokenKind.TheVariants as token
use Rattle.sno_expression.{specs.Expressions.{Expression, Identifier, Group, Call, Unary, Binary, NoArguments, Omitted, Argument}, specs.Lacking.{lacking}, specs.Spelling.{spaced}}
use Rattle.sno_expression.specs.inner.Telling.{Tells, telling}
use Rattle.sno_expression.specs.declared.tree.BinaryOperator.TheVariants as operator
use Rattle.sno_expression.specs.declared.tree.UnaryOperator.TheVariants as unary

-- a name with a blank before it, or without one; an operator between blanks; what touches; and names as trees
abbrev name : Bool → ℕ → Token
name b c = spaced b false (token.Identifier (c ∷ []))

abbrev mark : Mark → Token
mark m = spaced true true (token.Mark m)

abbrev near : TokenKind → Token
near k = spaced false false k

abbrev A : Expression
A = Identifier (65 ∷ [])

abbrev B : Expression
B = Identifier (66 ∷ [])

abbrev C : Expression
C = Identifier (67 ∷ [])

-- A / B * C is A over the product
over_times : telling false (name true 65 ∷ mark marks.Slash ∷ name true 66 ∷ mark marks.Star ∷ name true 67 ∷ [])
    ≡ Tells (Some (Binary operator.Over A (Binary operator.Times B C))) [] 0 false
over_times = refl

-- A B | C . A $ B: the alternation outermost, the assignments to C innermost, from the left
pattern : telling false (name true 65 ∷ name true 66 ∷ mark marks.Bar ∷ name true 67 ∷ mark marks.Dot ∷ name true 65 ∷ mark marks.Dollar ∷ name true 66 ∷ [])
    ≡ Tells (Some (Binary operator.Alternation (Binary operator.Concatenation A B) (Binary operator.Immediate (Binary operator.Conditional C A) B))) [] 0 false
pattern = refl

-- A(B,,C)
call : telling false (name true 65 ∷ near token.Open ∷ name false 66 ∷ near token.Comma ∷ near token.Comma ∷ name false 67 ∷ near token.Close ∷ [])
    ≡ Tells (Some (Call (65 ∷ []) (Argument (Omitted (Argument NoArguments B)) C))) [] 0 false
call = refl

-- A (B) as a subject is A alone
alone : telling true (name true 65 ∷ spaced true false token.Open ∷ name false 66 ∷ near token.Close ∷ [])
    ≡ Tells (Some A) (spaced true false token.Open ∷ name false 66 ∷ near token.Close ∷ []) 0 true
alone = refl

-- A+B: the tree before the sign, which would go on with other blanks
touching : telling false (name true 65 ∷ near (token.Mark marks.Plus) ∷ name false 66 ∷ []) ≡ Tells (Some A) (near (token.Mark marks.Plus) ∷ name false 66 ∷ []) 0 true
touching = refl

-- A . (B) lacks a variable at the parenthesis, A . $(B) nowhere, and A . B(C) where the name opens the call
group : lacking false (Binary operator.Conditional A (Group B)) ≡ false ∷ false ∷ true ∷ false ∷ false ∷ []
group = refl

indirect : lacking false (Binary operator.Conditional A (Unary unary.Indirect (Group B))) ≡ false ∷ false ∷ false ∷ false ∷ false ∷ false ∷ []
indirect = refl

called : lacking false (Binary operator.Conditional A (Call (66 ∷ []) (Argument NoArguments C))) ≡ false ∷ false ∷ true ∷ false ∷ false ∷ false ∷ []
called = refl
