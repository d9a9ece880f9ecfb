use Rattle.std.proofs.Common.{length, ap, arith}
use Rattle.site_plan.{specs.Tables.{after_line}, proofs.Walking.{walk_on}}
use Rattle.site_plan.proofs.table.read_table.Goals as goal

pub lines-preserved : goal.lines-preserved
lines-preserved c = record {
  so_far =
      walk_on after_line c.lines.number c.lines.accounts c.take_line.new.accounts c.lines.rest.now c.first_line.result.0.now c.first_line.result.1.now
      _ c.lines.invariant.so_far c.first_line.ensures.parts c.in-Ok.ensures.taken;
  counted = let parts = ap length c.first_line.ensures.parts in omega (arith, parts, c.lines.invariant.counted);
  few = omega (arith, c.first_line.ensures.less, c.lines.invariant.few);
}
