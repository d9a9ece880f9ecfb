use Rattle.std.proofs.Common.{◌-◌}
use Rattle.sno_text.specs.Nodes.{pattern_of}
use Rattle.sno_pattern.{specs.Steps.{EndConditional}, specs.inner.Stack.{variable_in, waiting_of}, proofs.Pushing.{end_cond, stepped, not_stepped}}
use Rattle.sno_pattern.proofs.consuming.put_by.Goals as goal

pub returns-then-left-eq0-clause-led : goal.returns-then-left-eq0-clause-led
returns-then-left-eq0-clause-led c =
    let a = c.args.trail.now in
    not_stepped c.args.text.now (EndConditional (variable_in (pattern_of c.args.node.now)) c.args.from) a.goals c.args.at
    (waiting_of c.args.text.now a.waits) c.args.left.now a c.if-left-eq0.true c.requires.all

pub returns-clause-led : goal.returns-clause-led
returns-clause-led c =
    let a = c.args.trail.now in
    rw (c.in_ok-wait.ensures, c.in_ok-variable.ensures) (stepped c.args.text.now
    (EndConditional (variable_in (pattern_of c.args.node.now)) c.args.from) a.goals c.args.at (waiting_of c.args.text.now a.waits)
    c.args.left.now c.if-left-eq0.false (end_cond c.args.text.now a.goals c.args.at a.waits a.opens c.requires.all (c.args.left.now - 1)
    (variable_in (pattern_of c.args.node.now)) c.args.from c.requires.cursor))
