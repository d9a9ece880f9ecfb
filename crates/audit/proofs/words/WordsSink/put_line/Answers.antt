use Rattle.mon_device.proofs.Putting.{puts_three}
use Rattle.audit.proofs.words.WordsSink.put_line.Goals as goal

pub returns : goal.returns
returns c = puts_three _ _ _ _ _ _ _ c.take.ensures c.take-2.ensures c.take-3.ensures
