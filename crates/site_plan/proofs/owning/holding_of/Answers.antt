use Rattle.site_plan.{specs.Owning.{with_set}, proofs.Owners.{gathered_on}}
use Rattle.site_plan.proofs.owning.holding_of.Goals as goal

pub loop-place-preserved : goal.loop-place-preserved
loop-place-preserved c =
    gathered_on (λ held named. with_set c.args.own.now held named.1) c.loop-place.place c.args.catalogue.now c.loop-place.held _ _ c.with_set_at-held.ensures c.loop-place.invariant
