use Rattle.std.proofs.Common.{ap}
use Rattle.mon_command.specs.Printouts.{word}
use Rattle.mon_device.proofs.Putting.{puts_three, puts_same}
use Rattle.audit.proofs.catalog.print_shown_name.Goals as goal

pub returns : goal.returns
returns g c = puts_three _ _ _ _ _ _ _ c.put.ensures (puts_same _ _ _ _ (ap word c.as_bytes.ensures.value) c.print_word.ensures) c.print_reason_word.ensures
