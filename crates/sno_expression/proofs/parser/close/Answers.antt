-- What does not end a bracket is not taken in it.
use Rattle.std.{proofs.Common.{◌≡◌, ◌∙◌, refl, sym, ap, ℕ, List}, specs.Prelude.{false, Option, Some, None}}
use Rattle.sno_lexer.specs.declared.token.TokenKind.{TokenKind}
use Rattle.sno_lexer.specs.declared.token.TokenKind.TheVariants as token
use Rattle.sno_expression.specs.{declared.parser.{Frame.{Frame}, Bracket.{Bracket}}, Abstraction.{expressions_of}, Expressions.{Expression}}
use Rattle.sno_expression.specs.inner.{Reading.{Hole, Stack, In, InGroup, InItem}, Told.{End, closing, hole_of, bracket_of, stack_of}}
use Rattle.sno_expression.proofs.parser.close.Goals as goal

group_stays : (h : Hole) (st : Stack) (o : Option Expression) (k : TokenKind) → (k ≡ token.Close → ⊥) → End None false ≡ closing (In InGroup h st) o k
group_stays h st o token.Close other = absurd (other refl)
group_stays h st None _ other = refl
group_stays h st (Some t) _ other = refl

item_stays : (n : List ℕ) (h : Hole) (st : Stack) (o : Option Expression) (k : TokenKind) → (k ≡ token.CloseAngle → ⊥) → End None false ≡ closing (In (InItem n) h st) o k
item_stays n h st o token.CloseAngle other = absurd (other refl)
item_stays n h st None _ other = refl
item_stays n h st (Some t) _ other = refl

pub returns-in_default-kind : goal.returns-in_default-kind
returns-in_default-kind c =
    let v = c.in-Above.frame.value in
    let held = sym (ap (λ (f : Frame). f.held) c.into_inner-held.ensures) ∙ c.in-Group.is in
    let stack = ap stack_of c.in-Above.is ∙ ap (λ (b : Bracket). In (bracket_of b) (hole_of v.hole) (stack_of v.below)) held in
    group_stays (hole_of v.hole) (stack_of v.below) (expressions_of c.args.tree) c.args.kind.now c.in_default-kind.not-Close
    ∙ ap (λ (s : Stack). closing s (expressions_of c.args.tree) c.args.kind.now) (sym stack)

pub returns-in_default-kind-3 : goal.returns-in_default-kind-3
returns-in_default-kind-3 c =
    let v = c.in-Above.frame.value in
    let held = sym (ap (λ (f : Frame). f.held) c.into_inner-held.ensures) ∙ c.in-Item.is in
    let stack = ap stack_of c.in-Above.is ∙ ap (λ (b : Bracket). In (bracket_of b) (hole_of v.hole) (stack_of v.below)) held in
    item_stays c.in-Item.name (hole_of v.hole) (stack_of v.below) (expressions_of c.args.tree) c.args.kind.now c.in_default-kind-3.not-CloseAngle
    ∙ ap (λ (s : Stack). closing s (expressions_of c.args.tree) c.args.kind.now) (sym stack)
