use Rattle.std.proofs.Common.{slice_index}
use Rattle.ledger_run.proofs.Refusing.{among_at}
use Rattle.ledger_site.proofs.InPasses.{kept_more}
use Rattle.ledger_site.proofs.claiming.others.Goals as goal

pub loop-place-preserved : goal.loop-place-preserved
loop-place-preserved c =
    kept_more c.loop-place.others.items c.add_other.new.others.items c.args.drops.now (slice_index c.args.drops.now c.loop-place.place-index) c.in_ok-is_refused.ensures
    c.loop-place.invariant (among_at c.args.drops.now c.loop-place.place-index c.loop-place-test.true)
