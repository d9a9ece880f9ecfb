use Rattle.mon_device.proofs.Putting.{puts_then}
use Rattle.audit.proofs.command.print_count.Goals as goal

pub returns : goal.returns
returns g c = puts_then _ _ _ _ _ c.put.ensures c.print_number.ensures
