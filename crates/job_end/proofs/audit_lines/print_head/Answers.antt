use Rattle.std.proofs.Common.{ap}
use Rattle.mon_command.specs.Printouts.{word}
use Rattle.mon_device.proofs.Putting.{puts_three, puts_same}
use Rattle.job_end.proofs.audit_lines.print_head.Goals as goal

pub returns : goal.returns
returns g c = puts_three _ _ _ _ _ _ _ c.put.ensures c.print_number.ensures (puts_same _ _ _ _ (ap word c.as_bytes.ensures.value) c.print_word.ensures)
