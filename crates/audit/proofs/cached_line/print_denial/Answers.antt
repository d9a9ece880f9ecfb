use Rattle.mon_device.proofs.Putting.{puts_three}
use Rattle.audit.proofs.cached_line.print_denial.Goals as goal

pub returns : goal.returns
returns g c = puts_three _ _ _ _ _ _ _ c.put.ensures c.print_reason_word.ensures c.put-2.ensures
