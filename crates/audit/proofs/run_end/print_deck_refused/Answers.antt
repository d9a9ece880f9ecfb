use Rattle.mon_device.proofs.Putting.{puts_four}
use Rattle.audit.proofs.run_end.print_deck_refused.Goals as goal

pub returns : goal.returns
returns g c = puts_four _ _ _ _ _ _ _ _ _ c.put.ensures c.print_number.ensures c.print_word.ensures c.put-2.ensures
