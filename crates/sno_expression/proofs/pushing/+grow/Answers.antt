-- Where the innermost operator is closed, those around it stay in order, and the new one takes what it made as its left operand.
use Rattle.std.proofs.Common.{◌∙◌, ap, sym, arith}
use Rattle.sno_expression.{specs.Abstraction.{expression_of}, specs.inner.Spines.{is_under_all}, proofs.Spines.{fits_joined, ordered_popped, under_last}}
use Rattle.sno_expression.proofs.pushing.+grow.Goals as goal

pub grow-requires : goal.grow-requires
grow-requires t c =
    let old = c.args.pending.items in
    let new = c.pop.new.self.items in
    let outer = c.in-Some.outer in (
      omega (arith, c.in-Some.ensures.cases, c.decreases),
      (
        ordered_popped old new outer c.in-Some.ensures.items c.requires.ordered,
        (
          fits_joined c.args.operator outer.operator (expression_of outer.left) (expression_of c.args.last)
              (expression_of c.in_ok-last-in-Some.last) c.in_ok-last-in-Some.ensures
              (under_last c.args.operator old new outer c.in-Some.ensures.items c.requires.ordered ∙ (ap (is_under_all c.args.operator) (sym c.as_slice.ensures.value) ∙ (sym c.goes_under.ensures ∙ c.if-goes_under.false))),
          c.requires.element,
        ),
      ),
    )
