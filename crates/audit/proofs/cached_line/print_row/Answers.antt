use Rattle.mon_device.proofs.Putting.{puts_three}
use Rattle.audit.proofs.cached_line.print_row.Goals as goal

pub returns : goal.returns
returns g c = puts_three _ _ _ _ _ _ _ c.put.ensures c.print_digits.ensures c.put-2.ensures
