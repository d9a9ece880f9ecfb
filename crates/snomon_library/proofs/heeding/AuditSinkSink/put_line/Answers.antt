-- Where nobody listens nothing is put.
use Rattle.std.proofs.Common.{refl}
use Rattle.mon_device.proofs.Putting.{puts_failed}
use Rattle.snomon_library.proofs.heeding.AuditSinkSink.put_line.Goals as goal

pub returns-else-self : goal.returns-else-self
returns-else-self g c = rw (c.if-self.false) (puts_failed _ _ _ refl refl)
