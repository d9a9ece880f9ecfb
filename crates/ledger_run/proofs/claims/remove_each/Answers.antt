use Rattle.std.proofs.Common.{rules, slice_index}
use Rattle.ledger_laws.specs.Claims.{removals}
use Rattle.ledger_run.proofs.Refusing.{among_at, removals_more, next_does, next_did}
use Rattle.ledger_run.proofs.claims.remove_each.Goals as goal

pub returns-in_err-remove_next-clause-err : goal.returns-in_err-remove_next-clause-err
returns-in_err-remove_next-clause-err g c =
    let a = next_did g.D.Disk.calls removals removals (slice_index c.args.drops.now c.loop-drop.drop-index) c.args.drops.now c.loop-drop.gone.items c.args.disk.now c.loop-drop.disk c.remove_next.new.disk
    (among_at c.args.drops.now c.loop-drop.drop-index c.loop-drop-test.true) (λ more. removals_more c.loop-drop.gone.items more) c.loop-drop.invariant c.in_err-remove_next.ensures.err in
    search (rules, a)

pub loop-drop-preserved : goal.loop-drop-preserved
loop-drop-preserved g c =
    next_does g.D.Disk.calls removals removals (slice_index c.args.drops.now c.loop-drop.drop-index) c.args.drops.now c.loop-drop.gone.items c.args.disk.now c.loop-drop.disk c.remove_next.new.disk
    (among_at c.args.drops.now c.loop-drop.drop-index c.loop-drop-test.true) (λ more. removals_more c.loop-drop.gone.items more) c.loop-drop.invariant c.remove_next.new.gone.items
    c.in_ok-remove_next.ensures.ok
