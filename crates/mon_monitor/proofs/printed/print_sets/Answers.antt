use Rattle.mon_monitor.proofs.Common.{puts_then}
use Rattle.mon_monitor.proofs.printed.print_sets.Goals as goal

pub returns : goal.returns
returns g c = puts_then _ _ _ _ _ c.put.ensures c.print.ensures
