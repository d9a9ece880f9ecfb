use Rattle.std.proofs.Common.{arith}
use Rattle.sno_pattern.{specs.inner.Stack.{waiting_of}, proofs.Pushing.{each_last, each_more}}
use Rattle.sno_pattern.proofs.choice_points.each.Goals as goal

pub returns-then-at-text : goal.returns-then-at-text
returns-then-at-text c =
    let a = c.args.trail.now in
    each_last c.args.text.now a.opens a.goals a.waits c.requires.all _ c.args.left.now c.skip-at.result c.skip-at.new.left
    (c.skip-at.ensures.same (waiting_of c.args.text.now a.waits)) c.skip-at.ensures.fewer c.skip-at.ensures.within
    (let t = c.if-at-text.true in omega arith)

pub returns : goal.returns
returns c =
    let a = c.args.trail.now in
    rw c.in_ok-leave.ensures (each_more c.args.text.now a.opens a.goals a.waits c.requires.all _ c.args.left.now c.skip-at.result c.skip-at.new.left
    (c.skip-at.ensures.same (waiting_of c.args.text.now a.waits)) c.skip-at.ensures.fewer (let f = c.if-at-text.false in omega arith))
