use Rattle.mon_device.proofs.Putting.{puts_then}
use Rattle.acl_text.proofs.forms.print_entry.Goals as goal

pub returns : goal.returns
returns g c = puts_then _ _ _ _ _ c.print_head.ensures c.print_perms.ensures
