use Rattle.std.proofs.Common.{ap, sym}
use Rattle.mon_device.proofs.Putting.{puts_nothing, puts_same}
use Rattle.audit.specs.inner.Parts.{grant_words}
use Rattle.audit.proofs.request.print_grant.Goals as goal

pub returns-in-None : goal.returns-in-None
returns-in-None g c = puts_same _ _ _ _ (ap grant_words (sym c.in-None.is)) (puts_nothing _)
