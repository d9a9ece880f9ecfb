use Rattle.mon_monitor.proofs.Common.{puts_three}
use Rattle.mon_monitor.proofs.listing.print_count.Goals as goal

pub returns : goal.returns
returns g c = puts_three _ _ _ _ _ _ _ c.put.ensures c.print_number.ensures c.put-2.ensures
