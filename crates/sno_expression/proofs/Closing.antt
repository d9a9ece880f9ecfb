-- Each state can be read on to a tree that lacks nothing more: an operand where one is due, and then a bracket for each open one.
use Rattle.std.{proofs.Common.{◌≡◌, ℕ, List, [], ◌∷◌, ◌++◌, refl, ap, ◌∙◌}, specs.Prelude.{Bool, true, false, Some, ◌&&◌, if◌then◌else◌}}
use Rattle.sno_lexer.specs.declared.token.Token.{Token}
use Rattle.sno_lexer.specs.declared.token.TokenKind.TheVariants as token
use Rattle.sno_expression.{specs.Marks.{needs_variable, operand_is_variable}, specs.Expressions.{Expression, Identifier, Group, Call, TableItem, Argument}, specs.Spelling.{spaced}}
use Rattle.sno_expression.{specs.inner.Telling.{Tells, told}, proofs.Feeding.{Apart, Read, more, more_none, answer, named, no_lack, told_reads, as_told}}
use Rattle.sno_expression.specs.inner.Reading.{Hole, Begin, After, Under, fill, InGroup, InCall, InItem, Stack, Bottom, In, Due, Prefixed, Named, Whole, State, At, with_prefix}

abbrev name : Bool → Token
name b = spaced b false (token.Identifier [])

abbrev pub closing : Token
closing = spaced false false token.Close

abbrev closings : Stack → List Token
closings Bottom = []
closings (In (InItem n) h st) = spaced false false token.CloseAngle ∷ closings st
closings (In q h st) = closing ∷ closings st

abbrev pub completion : State → List Token
completion (At st (Due (After t o))) = name true ∷ closings st
completion (At st (Due h)) = name false ∷ closings st
completion (At st (Prefixed h w)) = name false ∷ closings st
completion (At st _) = closings st

-- behind the expression stands nothing, or the parenthesis of a target
abbrev pub tail : Bool → List Token
tail false = []
tail true = closing ∷ []

abbrev Ends : Bool → State → List Token → Bool → Type 0
Ends alone s m c = (t : Expression) × (answer alone s (m ++ tail c) ≡ Read (Some t) (tail c) 0)

-- behind a token that lacks nothing
quiet : (alone : Bool) (s : State) (m : List Token) (c w : Bool) (n : ℕ) → Ends alone s m c
    → (t : Expression) × (more (if w && false then n else 0) (answer alone s (m ++ tail c)) ≡ Read (Some t) (tail c) 0)
quiet alone s m c w n x =
    (x.0, ap (λ (l : ℕ). more l (answer alone s (m ++ tail c))) (no_lack w n) ∙ (more_none (answer alone s (m ++ tail c)) ∙ x.1))

whole_ends : (st : Stack) (alone c : Bool) (t : Expression) → Ends alone (At st (Whole t)) (closings st) c
whole_ends Bottom alone false t = (t, refl)
whole_ends Bottom true true t = (t, refl)
whole_ends Bottom false true t = (t, refl)
whole_ends (In InGroup h st) alone c t = let x = fill h (Group t) in quiet alone (At st (Whole x)) (closings st) c false 0 (whole_ends st alone c x)
whole_ends (In (InCall f args) h st) alone c t =
    let x = fill h (Call f (Argument args t)) in quiet alone (At st (Whole x)) (closings st) c false 0 (whole_ends st alone c x)
whole_ends (In (InItem n) h st) alone c t = let x = fill h (TableItem n t) in quiet alone (At st (Whole x)) (closings st) c false 0 (whole_ends st alone c x)

apart : (st : Stack) (c : Bool) → Apart (closings st ++ tail c)
apart Bottom false = tt
apart Bottom true = refl
apart (In InGroup h st) c = refl
apart (In (InCall f args) h st) c = refl
apart (In (InItem n) h st) c = refl

named_ends : (st : Stack) (alone c : Bool) (h : Hole) (n : List ℕ) → Ends alone (At st (Named h n)) (closings st) c
named_ends st alone c h n = let x = whole_ends st alone c (fill h (Identifier n)) in (x.0, named alone st h n (closings st ++ tail c) (apart st c) ∙ x.1)

ends : (s : State) (alone c : Bool) → Ends alone s (completion s) c
ends (At st (Due Begin)) alone c = quiet alone (At st (Named Begin [])) (closings st) c false 0 (named_ends st alone c Begin [])
ends (At st (Due (After t o))) alone c = quiet alone (At st (Named (After t o) [])) (closings st) c (needs_variable o) _ (named_ends st alone c (After t o) [])
ends (At st (Due (Under s h))) alone c = quiet alone (At st (Named (Under s h) [])) (closings st) c (operand_is_variable s) _ (named_ends st alone c (Under s h) [])
ends (At st (Prefixed h w)) alone c = let x = fill h (with_prefix w []) in quiet alone (At st (Whole x)) (closings st) c false 0 (whole_ends st alone c x)
ends (At st (Named h n)) alone c = named_ends st alone c h n
ends (At st (Whole t)) alone c = whole_ends st alone c t

pub state_ends : (s : State) (alone c : Bool) → (t : Expression) × (w : Bool) × (told alone s (completion s ++ tail c) ≡ Tells (Some t) (tail c) 0 w)
state_ends s alone c =
    let x = ends s alone c in
    let m = completion s ++ tail c in
    let w = as_told (told alone s m) x.0 (tail c) 0 (told_reads alone m s ∙ x.1) in
    (x.0, w.0, w.1)
