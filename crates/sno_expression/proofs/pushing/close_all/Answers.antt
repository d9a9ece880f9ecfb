-- The outermost operator, and the run behind it.
use Rattle.std.{proofs.Common.{◌∙◌, ap, sym, List, ℕ}, specs.Prelude.{◌==◌}}
use Rattle.sno_expression.{specs.declared.tree.Pending.{Pending}, specs.Expressions.{Binary}, specs.Abstraction.{expression_of}, specs.inner.Runs.{spread_all}, proofs.Runs.{binary_is, made}}
use Rattle.sno_expression.proofs.Spines.{removed}
use Rattle.sno_expression.proofs.pushing.close_all.Goals as goal

pub returns : goal.returns
returns c =
    let j = c.remove-left.result in
    let run = c.shrink_to_fit.new.self in
    binary_is j.operator c.in_ok-operands.operands
    ∙ (made j.operator c.in_ok-operands.operands.value j.left c.args.last run c.in_ok-operands.ensures.ok
    ∙ (ap (λ (js : List Pending). Binary j.operator (expression_of j.left) (spread_all js (expression_of c.args.last))) c.shrink_to_fit.ensures.items
    ∙ ap (λ (js : List Pending). spread_all js (expression_of c.args.last))
    (sym (removed c.args.pending.items c.remove-left.new.self.items j (ap (λ (n : ℕ). n == 0) (sym c.args.pending.ok.0) ∙ (sym c.is_empty.ensures ∙ c.if-is_empty.false)) c.remove-left.ensures.value c.remove-left.ensures.by_index.2))))
