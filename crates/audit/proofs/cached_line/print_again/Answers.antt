use Rattle.mon_device.proofs.Putting.{puts_three}
use Rattle.audit.proofs.cached_line.print_again.Goals as goal

pub returns : goal.returns
returns g c = puts_three _ _ _ _ _ _ _ c.print_beginning.ensures c.print_digits.ensures c.print_outcome.ensures
