use Rattle.std.proofs.Common.{refl}
use Rattle.mon_device.proofs.Putting.{puts_failed}
use Rattle.audit.proofs.words.Words.take.Goals as goal

pub returns-else-not-self : goal.returns-else-not-self
returns-else-not-self c = puts_failed _ _ _ c.if-not-self.false refl
