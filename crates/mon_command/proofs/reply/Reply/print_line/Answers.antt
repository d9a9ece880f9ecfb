use Rattle.mon_device.proofs.Putting.{puts_then}
use Rattle.mon_command.proofs.reply.Reply.print_line.Goals as goal

pub returns : goal.returns
returns g c = puts_then _ _ _ _ _ c.print.ensures c.put.ensures
