use Rattle.std.proofs.Common.{ap}
use Rattle.mon_command.specs.Printouts.{word}
use Rattle.mon_device.proofs.Putting.{puts_then, puts_four, puts_same}
use Rattle.audit.proofs.request.print_place.Goals as goal

pub returns : goal.returns
returns g c =
    puts_then _ _ _ _ _
    (puts_four _ _ _ _ _ _ _ _ _ c.print_number.ensures (puts_same _ _ _ _ (ap word c.act_word.ensures) c.print_word.ensures) c.print_number-2.ensures
    (puts_same _ _ _ _ (ap word c.target_word.ensures) c.print_word-2.ensures))
    c.print_number-3.ensures
