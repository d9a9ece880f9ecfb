use Rattle.mon_device.proofs.Putting.{puts_three}
use Rattle.audit.proofs.cached_line.print_end.Goals as goal

pub returns : goal.returns
returns g c = puts_three _ _ _ _ _ _ _ c.put.ensures c.put-2.ensures c.put-3.ensures
