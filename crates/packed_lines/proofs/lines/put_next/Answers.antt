-- The line is gathered, with what follows it.
use Rattle.std.proofs.Common.{[], arith}
use Rattle.mon_device.proofs.Putting.{puts_nothing}
use Rattle.packed_lines.proofs.Gathering.{block_begins}
use Rattle.packed_lines.proofs.lines.put_next.Goals as goal

pub returns-in-Some-clause-put : goal.returns-in-Some-clause-put
returns-in-Some-clause-put g c = (
  [],
  puts_nothing _,
  block_begins _ _ c.in-Some.block.now c.args.rest.now c.args.before c.args.count (omega arith) c.in-Some.ensures.cases.same (c.gather_block.ensures c.args.count (omega arith)),
)
