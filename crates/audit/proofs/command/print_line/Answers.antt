use Rattle.std.proofs.Common.{◌∙◌, ap}
use Rattle.mon_command.specs.Printouts.{word}
use Rattle.mon_device.proofs.Putting.{puts_four, puts_same}
use Rattle.audit.proofs.command.print_line.Goals as goal

pub returns : goal.returns
returns g c = puts_four _ _ _ _ _ _ _ _ _ c.put.ensures (puts_same _ _ _ _ (ap word (c.as_bytes.ensures.value ∙ c.account.ensures)) c.print_word.ensures) c.print_what.ensures c.put-2.ensures
