-- One name more is met, or it is no new one.
use Rattle.std.proofs.Common.{rules, arith}
use Rattle.sno_declarations.proofs.Apart.{goes_on, stops}
use Rattle.sno_declarations.proofs.prototype.meet_all.Goals as goal

pub returns-then-not-branch : goal.returns-then-not-branch
returns-then-not-branch c =
    stops c.in_ok-meet.field-0 c.args.met.now c.loop-left.met c.meet.new.met c.loop-left.left c.args.names.now c.index-names-left.result (search rules)
    c.loop-left-test.true c.loop-left.invariant.0 c.index-names-left.is c.loop-left.invariant.1 c.in_ok-meet.ensures

pub loop-left-preserved : goal.loop-left-preserved
loop-left-preserved c = (
  omega (arith, c.loop-left.invariant.0),
  goes_on c.in_ok-meet.field-0 c.args.met.now c.loop-left.met c.meet.new.met c.loop-left.left c.args.names.now c.index-names-left.result (search rules)
      c.loop-left-test.true c.loop-left.invariant.0 c.index-names-left.is c.loop-left.invariant.1 c.in_ok-meet.ensures,
)
