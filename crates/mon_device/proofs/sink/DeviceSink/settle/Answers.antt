use Rattle.mon_device.proofs.Putting.{puts_nothing}
use Rattle.mon_device.proofs.sink.DeviceSink.settle.Goals as goal

pub returns-then-self-clause-puts : goal.returns-then-self-clause-puts
returns-then-self-clause-puts g c = puts_nothing _
