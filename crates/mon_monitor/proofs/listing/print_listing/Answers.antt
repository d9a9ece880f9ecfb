use Rattle.mon_monitor.proofs.Common.{puts_then}
use Rattle.mon_monitor.proofs.listing.print_listing.Goals as goal

pub returns : goal.returns
returns g c = puts_then _ _ _ _ _ c.print_card.ensures c.print_set.ensures
