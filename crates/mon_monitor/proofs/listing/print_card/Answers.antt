use Rattle.std.proofs.Common.{ap}
use Rattle.mon_monitor.proofs.Common.{word, puts_four, puts_same}
use Rattle.mon_monitor.proofs.listing.print_card.Goals as goal

pub returns : goal.returns
returns g c =
    puts_four _ _ _ _ _ _ _ _ _ c.put.ensures (puts_same _ _ _ _ (ap word c.as_bytes.ensures.value) c.print_word.ensures)
    (puts_same _ _ _ _ (ap word c.as_bytes-2.ensures.value) c.print_word-2.ensures) c.put-2.ensures
