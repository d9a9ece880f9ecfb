-- Where a statement lacks a variable: for each of its tokens, whether an element begins there that should be a variable and
-- is none (own).
use Rattle.std.specs.Prelude.{◌≡◌, Bool, false, not, ◌++◌, List, [], ◌∷◌, is_some}
use Rattle.std.specs.List.{list_any}
use Rattle.sno_lexer.specs.declared.token.Outcome.{Outcome}
use Rattle.sno_lexer.specs.declared.token.Outcome.TheVariants.{Success, Failure}
use Rattle.sno_lexer.specs.declared.token.Part.TheVariants.{On}
use Rattle.sno_lexer.specs.declared.token.Token.{Token}
use Rattle.sno_lexer.specs.declared.token.TokenKind.TheVariants as token
use Rattle.sno_expression.specs.declared.tree.UnaryOperator.TheVariants.{Indirect}
use Rattle.sno_expression.specs.Expressions.{Unary}
use Rattle.sno_expression.specs.Lacking.{lacking}
use Rattle.sno_statement.specs.Statements.{Target, To, Computed, Goto, NoGoto, Always, OnSuccess, OnFailure, OnBoth, Object, NoObject, NullObject, ValueObject, Body, NoBody, Does, Statement, Says, may_be_set}
use Rattle.std.specs.Option.{option_map_or}

-- for each token of a part of a statement; before an object stands its `=`
abbrev pub lacking_object : Object → List Bool
lacking_object object = elim object [ NoObject ↦ [] | NullObject ↦ false ∷ [] | ValueObject t ↦ false ∷ lacking false t ]

-- where an object is given the subject has to be one that may be assigned to
abbrev pub lacking_body : Body → List Bool
lacking_body NoBody = []
lacking_body (Does s p o) = lacking (elim o [ NoObject ↦ false | given ↦ not (may_be_set s (is_some p)) ]) s
    ++ (option_map_or (lacking false) p [] ++ lacking_object o)

-- for each token of a target, with its parentheses
abbrev pub lacking_target : Target → List Bool
lacking_target (To l) = false ∷ false ∷ false ∷ []
lacking_target (Computed t) = false ∷ (lacking false (Unary Indirect t) ++ false ∷ [])

-- for each token of a goto that names this outcome first, if it names both
abbrev pub lacking_goto : Outcome → Goto → List Bool
lacking_goto o NoGoto = []
lacking_goto o (Always t) = false ∷ lacking_target t
lacking_goto o (OnSuccess t) = false ∷ false ∷ lacking_target t
lacking_goto o (OnFailure t) = false ∷ false ∷ lacking_target t
lacking_goto Success (OnBoth s f) = false ∷ false ∷ (lacking_target s ++ false ∷ lacking_target f)
lacking_goto Failure (OnBoth s f) = false ∷ false ∷ (lacking_target f ++ false ∷ lacking_target s)

-- the outcome that tokens name first, and success where they name none
abbrev pub named_first : List Token → Outcome
named_first [] = Success
named_first (t ∷ ts) = elim t.kind [ token.Part (On o) ↦ o | other ↦ named_first ts ]

-- for each token of a statement that the tokens spell
abbrev pub lacking_in : List Token → Statement → List Bool
lacking_in ts (Says b g) = lacking_body b ++ lacking_goto (named_first ts) g

-- a variable stands in each place that needs one, in a statement that the tokens spell
abbrev pub StatementHasVariables : List Token → Statement → Type 0
StatementHasVariables ts s = list_any (λ lacks. lacks) (lacking_in ts s) ≡ false
