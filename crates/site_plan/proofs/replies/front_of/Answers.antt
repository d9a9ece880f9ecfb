use Rattle.std.proofs.Common.{sym, arith, length-take}
use Rattle.std.proofs.lemmas.List.{take_all}
use Rattle.site_plan.proofs.replies.front_of.Goals as goal

pub slice_bounds-result-end : goal.slice_bounds-result-end
slice_bounds-result-end c = let more = c.if-line-gt-MOST_SHOWN.true in omega (arith, length-take 200 c.args.line.now, more)

pub returns-else-line-gt-MOST_SHOWN : goal.returns-else-line-gt-MOST_SHOWN
returns-else-line-gt-MOST_SHOWN c = let few = c.if-line-gt-MOST_SHOWN.false in sym (take_all 200 c.args.line.now (omega (arith, few)))
