use Rattle.std.proofs.Common.{rules, refl}
use Rattle.mon_device.proofs.Putting.{puts_then, puts_failed}
use Rattle.mon_device.proofs.sink.DeviceSink.make_room.Goals as goal

pub returns-then-is_err : goal.returns-then-is_err
returns-then-is_err g c = puts_then _ _ _ _ _ c.write_out.ensures.puts (puts_failed _ _ _ (search rules) refl)

pub returns-then-bytes-le-WRITE_SIZE : goal.returns-then-bytes-le-WRITE_SIZE
returns-then-bytes-le-WRITE_SIZE g c = puts_then _ _ _ _ _ c.write_out.ensures.puts c.gather.ensures

pub returns-else-bytes-le-WRITE_SIZE : goal.returns-else-bytes-le-WRITE_SIZE
returns-else-bytes-le-WRITE_SIZE g c = puts_then _ _ _ _ _ c.write_out.ensures.puts c.write_through.ensures
