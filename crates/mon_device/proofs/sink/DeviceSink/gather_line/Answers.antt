use Rattle.std.proofs.Common.{refl}
use Rattle.mon_device.proofs.Putting.{puts_gathered}
use Rattle.mon_device.proofs.sink.DeviceSink.gather_line.Goals as goal

pub returns : goal.returns
returns g c = puts_gathered _ _ _ c.requires.sound (rw c.keep_line.ensures refl)
