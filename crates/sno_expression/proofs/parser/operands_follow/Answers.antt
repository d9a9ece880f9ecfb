-- Each turn is one or two steps that the reading takes; behind a name that comes first, one more concatenation stands innermost.
use Rattle.std.{proofs.Common.{rules, arith, ◌≡◌, ◌+◌, ◌∙◌, drop, ap, sym, refl, List, ℕ}, specs.Prelude.{true, false}}
use Rattle.sno_expression.{specs.declared.tree.BinaryOperator.TheVariants.{Concatenation}, specs.Expressions.{Expression, Identifier}, specs.Abstraction.{expression_of}, proofs.First.{goes_from}}
use Rattle.sno_expression.{specs.inner.Reading.{At, Bottom, Whole}, specs.inner.Runs.{spread_all}, specs.inner.Spines.{is_ordered, is_under_all}, specs.inner.Telling.{told}}
use Rattle.sno_expression.proofs.Spines.{fits_element, grown_pushed, ordered_pushed, under_more}
use Rattle.sno_expression.proofs.parser.operands_follow.Goals as goal

pub overflow_add-at : goal.overflow_add-at
overflow_add-at c =
    let g = goes_from (spread_all c.names.pending.items (expression_of c.names.last)) c.args.tokens.now c.names.at Concatenation
    (Identifier c.in-Some.word.now) 1 c.in-Some.ensures c.names.invariant.within in
    let w = g.2 in
    search (rules, w)

pub names-smaller : goal.names-smaller
names-smaller c =
    let g = goes_from (spread_all c.names.pending.items (expression_of c.names.last)) c.args.tokens.now c.names.at Concatenation
    (Identifier c.in-Some.word.now) 1 c.in-Some.ensures c.names.invariant.within in
    let w = g.2 in
    omega (arith, w)

pub names-preserved : goal.names-preserved
names-preserved c =
    let i = c.names.invariant in
    let old = c.names.pending.items in
    let new = c.push.new.self.items in
    let e = c.in_ok-push.ensures.items in
    let g = goes_from (spread_all old (expression_of c.names.last)) c.args.tokens.now c.names.at Concatenation
    (Identifier c.in-Some.word.now) 1 c.in-Some.ensures i.within in
    let o : is_ordered new ≡ true = ordered_pushed old new _ e i.ordered i.under in
    record {
      ordered = o;
      under = ap (is_under_all Concatenation) e ∙ under_more Concatenation old _ (ap is_ordered (sym e) ∙ o) refl;
      element = refl;
      same = i.same
          ∙ (g.0 ∙ ap (λ (x : Expression). told false (At Bottom (Whole x)) (drop (c.names.at + 1) c.args.tokens.now))
          (sym (ap (λ (w : List ℕ). spread_all new (Identifier w)) c.in_ok-name.ensures
          ∙ grown_pushed old new _ (Identifier c.in-Some.word.now) e i.under (fits_element Concatenation c.names.last i.element))));
      within = g.2;
    }

pub overflow_add-at-in-Some-2 : goal.overflow_add-at-in-Some-2
overflow_add-at-in-Some-2 c =
    let next = c.in-Some-2.next in
    let g = goes_from (spread_all c.operands.pending.items (expression_of c.operands.last)) c.args.tokens.now c.operands.at next.operator (expression_of next.operand) next.taken
    (rw c.in-Some-2.is at c.in_ok-next.ensures) c.operands.invariant.within in
    let w = g.2 in
    search (rules, w)

pub operands-smaller : goal.operands-smaller
operands-smaller c =
    let next = c.in-Some-2.next in
    let g = goes_from (spread_all c.operands.pending.items (expression_of c.operands.last)) c.args.tokens.now c.operands.at next.operator (expression_of next.operand) next.taken
    (rw c.in-Some-2.is at c.in_ok-next.ensures) c.operands.invariant.within in
    let p = g.1 in
    let w = g.2 in
    omega (arith, p, w)

pub operands-preserved : goal.operands-preserved
operands-preserved c =
    let next = c.in-Some-2.next in
    let grown = c.in_ok-grown.grown in
    let g = goes_from (spread_all c.operands.pending.items (expression_of c.operands.last)) c.args.tokens.now c.operands.at next.operator (expression_of next.operand) next.taken
    (rw c.in-Some-2.is at c.in_ok-next.ensures) c.operands.invariant.within in
    record {
      ordered = grown.ordered;
      element = grown.element;
      same = c.operands.invariant.same
          ∙ (g.0 ∙ ap (λ (x : Expression). told false (At Bottom (Whole x)) (drop (c.operands.at + next.taken) c.args.tokens.now)) (sym c.in_ok-grown.ensures));
      within = g.2;
    }
