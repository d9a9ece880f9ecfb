use Rattle.mon_device.proofs.Putting.{puts_four}
use Rattle.audit.proofs.command.print_what.Goals as goal

pub returns : goal.returns
returns g c = puts_four _ _ _ _ _ _ _ _ _ c.print_card.ensures c.print_said.ensures c.print_if_done.ensures c.print_granted_by.ensures
