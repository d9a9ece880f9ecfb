use Rattle.mon_device.proofs.Putting.{puts_three, puts_same}
use Rattle.acl_text.proofs.refused.print_missing.Goals as goal

pub returns : goal.returns
returns g c = puts_three _ _ _ _ _ _ _ c.put.ensures (puts_same _ _ _ _ c.word.ensures c.put-2.ensures) c.put-3.ensures
