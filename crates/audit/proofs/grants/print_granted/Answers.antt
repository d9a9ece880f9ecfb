use Rattle.std.proofs.Common.{ap, sym}
use Rattle.mon_device.proofs.Putting.{puts_nothing, puts_same}
use Rattle.audit.specs.Grants.{granted_words}
use Rattle.audit.proofs.grants.print_granted.Goals as goal

pub returns-in-None : goal.returns-in-None
returns-in-None g c = puts_same _ _ _ _ (ap granted_words (sym c.in-None.is)) (puts_nothing _)
