use Rattle.std.proofs.Common.{ℕ, List, subst}
use Rattle.ledger_run.{specs.Claiming.{DidSome, BeganSome}, specs.Finishing.{leave_calls}, proofs.Leaving.{leaves_later, leaves_begun, finishes}}
use Rattle.ledger_run.proofs.finishing.finish_claims.Goals as goal

pub returns-in_err-sorted-clause-began : goal.returns-in_err-sorted-clause-began
returns-in_err-sorted-clause-began g c = leaves_later g.D.Disk.calls c.args.disk.now c.sort_drops.new.disk c.in_err-sorted.ensures.err

pub returns-in_err-leave-clause-began : goal.returns-in_err-leave-clause-began
returns-in_err-leave-clause-began g c =
    leaves_begun g.D.Disk.calls c.args.drops.now c.in_ok-sorted.sorted.done.items c.in_ok-sorted.sorted.left.items c.args.disk.now c.sort_drops.new.disk c.leave.new.disk c.in_ok-sorted.ensures.ok
    (subst (λ (l : List ℕ). BeganSome g.D.Disk.calls leave_calls l c.sort_drops.new.disk c.leave.new.disk) c.deref.ensures.value c.in_err-leave.ensures.began)

pub returns-clause-began : goal.returns-clause-began
returns-clause-began g c =
    leaves_begun g.D.Disk.calls c.args.drops.now c.in_ok-sorted.sorted.done.items c.in_ok-sorted.sorted.left.items c.args.disk.now c.sort_drops.new.disk c.leave.new.disk c.in_ok-sorted.ensures.ok
    (subst (λ (l : List ℕ). BeganSome g.D.Disk.calls leave_calls l c.sort_drops.new.disk c.leave.new.disk) c.deref.ensures.value c.in_ok-leave.ensures.began)

pub returns-clause-did : goal.returns-clause-did
returns-clause-did g c =
    finishes g.D.Disk.calls c.args.drops.now c.in_ok-sorted.sorted.done.items c.in_ok-sorted.sorted.left.items c.args.disk.now c.sort_drops.new.disk c.leave.new.disk c.in_ok-sorted.ensures.ok
    (subst (λ (l : List ℕ). DidSome g.D.Disk.calls leave_calls l c.sort_drops.new.disk c.leave.new.disk) c.deref.ensures.value c.in_ok-leave.ensures.did)
