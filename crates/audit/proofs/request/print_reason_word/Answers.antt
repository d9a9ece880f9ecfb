use Rattle.std.proofs.Common.{ap}
use Rattle.mon_command.specs.Replies.{reason_text}
use Rattle.mon_device.proofs.Putting.{puts_then, puts_same}
use Rattle.audit.proofs.request.print_reason_word.Goals as goal

pub returns : goal.returns
returns g c = puts_then _ _ _ _ _ c.put.ensures (puts_same _ _ _ _ (ap reason_text c.copy.ensures) c.print_reason.ensures)
