use Rattle.std.proofs.Common.{◌∙◌, sym, refl}
use Rattle.std.proofs.lemmas.Result.{IfOk-weaker}
use Rattle.interaction.specs.Fitting.{writing}
use Rattle.mon_device.proofs.Putting.{puts_failed}
use Rattle.audit.proofs.Keeping.{kept_either}
use Rattle.audit.proofs.audited_service.AuditedServiceService.write.Goals as goal

pub returns-then-not-listens-clause-answered : goal.returns-then-not-listens-clause-answered
returns-then-not-listens-clause-answered g c =
    IfOk-weaker c.write.result _ _ (λ answer served. (record { served = served; number = refl; put = puts_failed _ _ _ (c.listens.ensures.silent (sym c.listens.ensures.is ∙ c.if-not-listens.true)) refl }, refl, refl, refl))
    c.write.ensures.answered

pub returns-then-not-listens-clause-ready : goal.returns-then-not-listens-clause-ready
returns-then-not-listens-clause-ready g c =
    let before = c.args.self.now in
    (c.write.ensures.ready, kept_either before.kept.now.number before.service.now c.write.new.self (writing c.args.statement c.args.unit c.args.line.now) before.kept.now c.write.result c.write.ensures.answered c.write.ensures.unchanged c.requires.ready.1)
