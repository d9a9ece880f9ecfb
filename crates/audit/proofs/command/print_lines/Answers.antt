use Rattle.mon_device.proofs.Putting.{puts_then}
use Rattle.audit.proofs.command.print_lines.Goals as goal

pub returns : goal.returns
returns g c = puts_then _ _ _ _ _ c.print_line.ensures c.print_shown.ensures
