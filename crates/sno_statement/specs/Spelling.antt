-- The tokens of a statement behind its label (own; after the SNOBOL4 book, chapter 1), part by part: each time the tokens of
-- a part, and then the rest.
use Rattle.std.specs.Prelude.{◌≡◌, Bool, true, List, [], ◌∷◌, ◌⊎◌, MatchOption}
use Rattle.sno_lexer.specs.declared.token.Outcome.{Outcome}
use Rattle.sno_lexer.specs.declared.token.Outcome.TheVariants.{Success, Failure}
use Rattle.sno_lexer.specs.declared.token.Part.TheVariants.{Equals, Colon, On, Label}
use Rattle.sno_lexer.specs.declared.token.Token.{Token}
use Rattle.sno_lexer.specs.declared.token.TokenKind.TheVariants as token
use Rattle.sno_expression.specs.declared.tree.UnaryOperator.TheVariants.{Indirect}
use Rattle.sno_expression.specs.Expressions.{Unary, IsOperand}
use Rattle.sno_expression.specs.Spelling.{spaced, SpellsTo}
use Rattle.sno_statement.specs.Statements.{Target, To, Computed, Goto, NoGoto, Always, OnSuccess, OnFailure, OnBoth, Object, NoObject, NullObject, ValueObject, Body, NoBody, Does, Statement, Says}

-- a target stands in parentheses
abbrev pub TargetTo : Target → List Token → List Token → Type 0
TargetTo (To l) ts rest =
    (b a c d e f : Bool) × (ts ≡ spaced b a token.Open ∷ spaced c d (token.Part (Label l)) ∷ spaced e f token.Close ∷ rest)
TargetTo (Computed t) ts rest =
    (m : List Token) × (b a c e f : Bool) × (ts ≡ spaced b a token.Open ∷ m) × SpellsTo c (Unary Indirect t) m (spaced e f token.Close ∷ rest)

abbrev pub OutcomeTo : Outcome → Target → List Token → List Token → Type 0
OutcomeTo o t ts rest = (m : List Token) × (b : Bool) × (c : Bool) × (ts ≡ spaced b c (token.Part (On o)) ∷ m) × TargetTo t m rest

-- behind `:` one target, or one for each outcome in either order, or one of those
abbrev pub LeadsTo : Goto → List Token → Type 0
LeadsTo NoGoto ts = ⊥
LeadsTo (Always t) ts = TargetTo t ts []
LeadsTo (OnSuccess t) ts = OutcomeTo Success t ts []
LeadsTo (OnFailure t) ts = OutcomeTo Failure t ts []
LeadsTo (OnBoth s f) ts =
    ((m : List Token) × OutcomeTo Success s ts m × OutcomeTo Failure f m [])
    ⊎ ((m : List Token) × OutcomeTo Failure f ts m × OutcomeTo Success s m [])

-- nothing, or a colon after a blank and what the goto leads to
abbrev pub GotoTo : Goto → List Token → Type 0
GotoTo NoGoto ts = ts ≡ []
GotoTo g ts = (m : List Token) × (c : Bool) × (ts ≡ spaced true c (token.Part Colon) ∷ m) × LeadsTo g m

-- `=` has a blank before it, and a blank or the end after it
abbrev pub ObjectTo : Object → List Token → List Token → Type 0
ObjectTo NoObject ts rest = ts ≡ rest
ObjectTo NullObject ts rest = ts ≡ spaced true true (token.Part Equals) ∷ rest
ObjectTo (ValueObject t) ts rest = (m : List Token) × (ts ≡ spaced true true (token.Part Equals) ∷ m) × SpellsTo true t m rest

-- the subject is one element, and a blank stands before a pattern
abbrev pub BodyTo : Body → List Token → List Token → Type 0
BodyTo NoBody ts rest = ts ≡ rest
BodyTo (Does s p o) ts rest = (m n : List Token) × (b : Bool) × SpellsTo b s ts m × MatchOption p (m ≡ n) (λ t. SpellsTo true t m n) × ObjectTo o n rest
    × IsOperand s

-- the tokens are those of the statement
abbrev pub Spells : Statement → List Token → Type 0
Spells (Says b g) ts = (m : List Token) × BodyTo b ts m × GotoTo g m
