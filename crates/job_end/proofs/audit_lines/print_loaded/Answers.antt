use Rattle.std.proofs.Common.{◌∙◌, sym, refl}
use Rattle.mon_device.proofs.Putting.{puts_failed, puts_three}
use Rattle.job_end.proofs.audit_lines.print_loaded.Goals as goal

pub returns : goal.returns
returns g c = puts_three _ _ _ _ _ _ _ c.print_head.ensures c.put.ensures c.put-2.ensures

pub returns-then-not-listens : goal.returns-then-not-listens
returns-then-not-listens g c = puts_failed _ _ _ (c.listens.ensures.silent (sym c.listens.ensures.is ∙ c.if-not-listens.true)) refl
