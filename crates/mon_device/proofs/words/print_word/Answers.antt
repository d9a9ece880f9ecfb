use Rattle.mon_device.proofs.Putting.{puts_then}
use Rattle.mon_device.proofs.words.print_word.Goals as goal

pub returns : goal.returns
returns g c = puts_then _ _ _ _ _ c.put.ensures c.put-2.ensures
