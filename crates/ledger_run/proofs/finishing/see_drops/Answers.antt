use Rattle.std.proofs.Common.{rules, ℕ, List, take, slice_index, sym, subst}
use Rattle.std.proofs.lemmas.List.{take_all}
use Rattle.ledger_run.{specs.Finishing.{Looks}, specs.Sorting.{AreSeen}, proofs.Sorting.{take_next, seen_first, seen_then, seen_on}}
use Rattle.ledger_run.proofs.finishing.see_drops.Goals as goal

pub loop-drop-init : goal.loop-drop-init
loop-drop-init g c = seen_first g.D.Disk.calls c.new-boxed.result.items c.args.disk.now c.new-boxed.ensures.items

pub returns-in_err-see_drop-clause-err : goal.returns-in_err-see_drop-clause-err
returns-in_err-see_drop-clause-err g c =
    let a = seen_on g.D.Disk.calls (take c.loop-drop.drop-index c.args.drops.now) c.loop-drop.boxed.items c.args.disk.now c.loop-drop.disk c.see_drop.new.disk c.loop-drop.invariant c.in_err-see_drop.ensures.err in search (rules, a)

pub loop-drop-preserved : goal.loop-drop-preserved
loop-drop-preserved g c =
    subst (λ (l : List ℕ). Looks g.D.Disk.calls (AreSeen l c.see_drop.new.boxed.items) c.args.disk.now c.see_drop.new.disk)
    (sym (take_next c.args.drops.now c.loop-drop.drop-index c.loop-drop-test.true))
    (seen_then g.D.Disk.calls (take c.loop-drop.drop-index c.args.drops.now) (slice_index c.args.drops.now c.loop-drop.drop-index) c.loop-drop.boxed.items c.see_drop.new.boxed.items
    c.args.disk.now c.loop-drop.disk c.see_drop.new.disk c.loop-drop.invariant c.in_ok-see_drop.ensures.ok)

pub returns-clause-ok : goal.returns-clause-ok
returns-clause-ok g c =
    subst (λ (l : List ℕ). Looks g.D.Disk.calls (AreSeen l c.loop-drop.boxed.items) c.args.disk.now c.loop-drop.disk)
    (take_all c.loop-drop.drop-index c.args.drops.now c.loop-drop-test.false) c.loop-drop.invariant
