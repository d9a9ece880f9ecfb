use Rattle.std.proofs.Common.{◌∙◌, sym, refl}
use Rattle.mon_device.proofs.Putting.{puts_failed}
use Rattle.audit.proofs.command.print_command.Goals as goal

pub returns-else-listens : goal.returns-else-listens
returns-else-listens g c = puts_failed _ _ _ (c.listens.ensures.silent (sym c.listens.ensures.is ∙ c.if-listens.false)) refl
