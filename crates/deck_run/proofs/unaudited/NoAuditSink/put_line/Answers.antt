use Rattle.std.proofs.Common.{refl}
use Rattle.mon_device.proofs.Putting.{puts_failed}
use Rattle.deck_run.proofs.unaudited.NoAuditSink.put_line.Goals as goal

pub returns : goal.returns
returns c = puts_failed _ _ _ refl refl
