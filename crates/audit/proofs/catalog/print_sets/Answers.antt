use Rattle.std.proofs.Common.{arith}
use Rattle.mon_device.proofs.Putting.{puts_nothing, puts_same, puts_then}
use Rattle.audit.proofs.Catalogs.{lines_more}
use Rattle.audit.proofs.catalog.print_sets.Goals as goal

pub loop-index-init : goal.loop-index-init
loop-index-init g c = puts_nothing _

pub loop-index-preserved : goal.loop-index-preserved
loop-index-preserved g c =
    puts_same _ _ _ _ (lines_more c.args.by.now c.args.account.now c.args.sets.now c.loop-index.index (omega arith))
    (puts_then _ _ _ _ _ c.loop-index.invariant c.print_set.ensures)
