use Rattle.std.proofs.Common.{◌-◌, sym, ◌∙◌, arith}
use Rattle.mon_text.proofs.Cutting.{nothing_kept}
use Rattle.site_plan.proofs.Reaching.{first_is, next_is, none_left}
use Rattle.site_plan.proofs.replies.line_of.Goals as goal

pub lines-preserved : goal.lines-preserved
lines-preserved c = next_is c.lines.left (c.lines.left - 1) c.lines.rest.now c.first_line.result.0.now c.first_line.result.1.now _ c.lines.invariant c.first_line.ensures.parts c.if-left-le1.false (omega arith)

pub returns-then-left-le1 : goal.returns-then-left-le1
returns-then-left-le1 c = first_is c.lines.left c.lines.rest.now c.first_line.result.0.now c.first_line.result.1.now _ c.lines.invariant c.first_line.ensures.parts c.if-left-le1.true

pub returns : goal.returns
returns c = none_left c.lines.left c.lines.rest.now _ c.lines.invariant (nothing_kept c.lines.rest.now (sym c.is_empty.ensures ∙ c.lines-test.false))
