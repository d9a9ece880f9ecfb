use Rattle.std.proofs.Common.{rules, ◌-◌, arith}
use Rattle.std.proofs.lemmas.Result.{IfOk-weaker}
use Rattle.sno_text.specs.Nodes.{pattern_of}
use Rattle.sno_pattern.{specs.Steps.{More}, specs.inner.Stack.{waiting_of}, proofs.Pushing.{more_stuck, more_turn, stepped, not_stepped, led_falls}}
use Rattle.sno_pattern.proofs.consuming.more.Goals as goal

pub returns-then-left-eq0-clause-led : goal.returns-then-left-eq0-clause-led
returns-then-left-eq0-clause-led c =
    let a = c.args.trail.now in
    not_stepped c.args.text.now (More (pattern_of c.args.pattern.now.value) c.args.from) a.goals c.args.at
    (waiting_of c.args.text.now a.waits) c.args.left.now a c.if-left-eq0.true c.requires.all

pub returns-then-at-from-clause-led : goal.returns-then-at-from-clause-led
returns-then-at-from-clause-led c =
    let a = c.args.trail.now in
    IfOk-weaker _ _ _ (λ t b. stepped c.args.text.now (More (pattern_of c.args.pattern.now.value) c.args.from) a.goals c.args.at
    (waiting_of c.args.text.now a.waits) c.args.left.now c.if-left-eq0.false
    (more_stuck c.args.text.now a.goals c.args.at a.waits a.opens c.requires.all (c.args.left.now - 1)
    (pattern_of c.args.pattern.now.value) c.args.from (search rules) b)) c.back.ensures

pub returns-then-at-from-clause-falls : goal.returns-then-at-from-clause-falls
returns-then-at-from-clause-falls c =
    let n = c.if-left-eq0.false in
    led_falls c.args.text.now c.args.trail.now.opens _ _ (c.args.left.now - 1) c.back.new.trail c.back.new.left c.args.left.now (omega arith) c.back.ensures

pub returns-else-at-from-clause-led : goal.returns-else-at-from-clause-led
returns-else-at-from-clause-led c =
    let a = c.args.trail.now in
    IfOk-weaker _ _ _ (λ t b. stepped c.args.text.now (More (pattern_of c.args.pattern.now.value) c.args.from) a.goals c.args.at
    (waiting_of c.args.text.now a.waits) c.args.left.now c.if-left-eq0.false
    (more_turn c.args.text.now a.goals c.args.at a.waits a.opens c.requires.all (c.args.left.now - 1)
    (pattern_of c.args.pattern.now.value) c.args.from (search rules) b)) c.one_more.ensures

pub returns-else-at-from-clause-falls : goal.returns-else-at-from-clause-falls
returns-else-at-from-clause-falls c =
    let n = c.if-left-eq0.false in
    led_falls c.args.text.now c.args.trail.now.opens _ _ (c.args.left.now - 1) c.one_more.new.trail (c.args.left.now - 1) c.args.left.now (omega arith) c.one_more.ensures
