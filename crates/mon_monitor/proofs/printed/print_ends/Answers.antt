-- One more is put.
use Rattle.std.proofs.Common.{arith}
use Rattle.mon_monitor.proofs.Common.{printout, puts_nothing, puts_each}
use Rattle.mon_monitor.proofs.printed.print_ends.Goals as goal

pub loop-end-init : goal.loop-end-init
loop-end-init g c = puts_nothing _

pub loop-end-preserved : goal.loop-end-preserved
loop-end-preserved g c = puts_each printout c.args.ends.now _ c.end-item.result _ _ _ (omega arith) c.end-item.is c.loop-end.invariant c.print_end.ensures
