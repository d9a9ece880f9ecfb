use Rattle.std.proofs.Common.{refl}
use Rattle.mon_device.proofs.Putting.{puts_failed}
use Rattle.mon_device.proofs.sink.DeviceSink.take.Goals as goal

pub returns-then-self : goal.returns-then-self
returns-then-self g c = puts_failed _ _ _ c.if-self.true refl
