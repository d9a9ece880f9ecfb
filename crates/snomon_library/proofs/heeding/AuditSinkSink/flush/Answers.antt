-- Where nobody listens nothing is written.
use Rattle.mon_device.proofs.Putting.{puts_nothing}
use Rattle.snomon_library.proofs.heeding.AuditSinkSink.flush.Goals as goal

pub returns-else-self-clause-puts : goal.returns-else-self-clause-puts
returns-else-self-clause-puts g c = puts_nothing _
