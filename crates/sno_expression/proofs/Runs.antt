-- Runs of operators as lists.
use Rattle.std.proofs.Common.{◌≡◌, refl, sym, ap, ap₂, ◌∙◌, List, Vec, Box, Global}
use Rattle.sno_expression.{specs.declared.tree.BinaryOperator.{BinaryOperator}, specs.declared.tree.Expression.{Expression as AnExpression}, specs.declared.tree.Pending.{Pending}}
use Rattle.sno_expression.{specs.Expressions.{Expression, Binary}, specs.Abstraction.{expression_of, spread}, specs.inner.Runs.{left_of, right_of, spread_all}}
use Rattle.sno_expression.specs.declared.tree.Operands.{Operands, Operands', out-Operands, roll-Operands, out-roll-Operands, Row_of-Pending, end_of-Pending, more_of-Pending, items-the_row-Pending, items_shown-the_row-Pending-0}
use Rattle.sno_expression.specs.declared.tree.Expression.TheVariants as tree

pub binary_is : (o : BinaryOperator) (b : Box Operands Global) → expression_of (tree.Binary o b) ≡ Binary o (left_of b.value) (right_of b.value)
binary_is o b = at b.value
  where
    at : (all : Operands) → expression_of (tree.Binary' o (record { ptr = b.ptr; alloc = b.alloc; value = tt }) all) ≡ Binary o (left_of all) (right_of all)
    at (Operands' l n run t) = refl

listed : (n : _) (row : Row_of-Pending n) (x : Expression) → spread row x ≡ spread_all (items-the_row-Pending n row) x
listed n end_of-Pending x = refl
listed n (more_of-Pending l o rest) x = ap (Binary o (expression_of l)) (listed _ rest x)

pub left_is : (all : Operands) → left_of all ≡ expression_of (out-Operands all).left
unfolding out-Operands denote.Hole.Carrier.out
left_is (Operands' l n run t) = refl

pub right_is : (all : Operands) → right_of all ≡ spread_all (out-Operands all).run.items (expression_of (out-Operands all).last)
unfolding out-Operands Rattle.sno_expression.specs.declared.tree.Arguments.TheBlock.shown-the_row-Pending-0 denote.Hole.Carrier.out denote.Hole.Carrier.shown
right_is (Operands' l n run t) = listed _ run (expression_of t)
    ∙ ap (λ (js : List Pending). spread_all js (expression_of t)) (sym (items_shown-the_row-Pending-0 n run))

-- WHAT IS MADE

pub left_made : (all : Operands) (l t : AnExpression) (run : Vec Pending Global) → all ≡ roll-Operands (record { left = l; run = run; last = t })
    → left_of all ≡ expression_of l
left_made all l t run e =
    left_is all
    ∙ (ap (λ (x : Operands). expression_of (out-Operands x).left) e
    ∙ ap (λ v. expression_of v.left) (out-roll-Operands (record { left = l; run = run; last = t })))

pub right_made : (all : Operands) (l t : AnExpression) (run : Vec Pending Global) → all ≡ roll-Operands (record { left = l; run = run; last = t })
    → right_of all ≡ spread_all run.items (expression_of t)
right_made all l t run e =
    right_is all
    ∙ (ap (λ (x : Operands). spread_all (out-Operands x).run.items (expression_of (out-Operands x).last)) e
    ∙ ap (λ v. spread_all v.run.items (expression_of v.last)) (out-roll-Operands (record { left = l; run = run; last = t })))

pub made : (o : BinaryOperator) (all : Operands) (l t : AnExpression) (run : Vec Pending Global) → all ≡ roll-Operands (record { left = l; run = run; last = t })
    → Binary o (left_of all) (right_of all) ≡ Binary o (expression_of l) (spread_all run.items (expression_of t))
made o all l t run e = ap₂ (Binary o) (left_made all l t run e) (right_made all l t run e)
