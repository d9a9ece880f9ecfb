-- A run of none.
use Rattle.std.proofs.Common.{◌∙◌, ap, List}
use Rattle.sno_expression.{specs.declared.tree.Pending.{Pending}, specs.Expressions.{Binary}, specs.Abstraction.{expression_of}, specs.inner.Runs.{spread_all}, proofs.Runs.{binary_is, made}}
use Rattle.sno_expression.proofs.growing.join.Goals as goal

pub returns : goal.returns
returns c =
    binary_is c.args.operator c.in_ok-operands.operands
    ∙ (made c.args.operator c.in_ok-operands.operands.value c.args.left c.args.right c.new.result c.in_ok-operands.ensures.ok
    ∙ ap (λ (js : List Pending). Binary c.args.operator (expression_of c.args.left) (spread_all js (expression_of c.args.right))) c.new.ensures.items)
