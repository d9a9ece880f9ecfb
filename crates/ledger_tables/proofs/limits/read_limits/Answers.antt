use Rattle.std.proofs.Common.{length, ap, arith}
use Rattle.site_plan.proofs.Walking.{walk_on}
use Rattle.ledger_tables.specs.Limits.{after_line}
use Rattle.ledger_tables.proofs.limits.read_limits.Goals as goal

pub lines-preserved : goal.lines-preserved
lines-preserved c = record {
  so_far =
      walk_on after_line c.lines.number c.lines.said.items c.take_line.new.said.items c.lines.rest.now c.first_line.result.0.now c.first_line.result.1.now
      _ c.lines.invariant.so_far c.first_line.ensures.parts c.in-Ok.ensures.taken;
  counted = let parts = ap length c.first_line.ensures.parts in omega (arith, parts, c.lines.invariant.counted);
  few = omega (arith, c.first_line.ensures.less, c.lines.invariant.few);
}
