use Rattle.mon_device.proofs.Putting.{puts_then}
use Rattle.acl_text.proofs.refused.print_at_entry.Goals as goal

pub returns : goal.returns
returns g c = puts_then _ _ _ _ _ c.put.ensures c.print_number.ensures
