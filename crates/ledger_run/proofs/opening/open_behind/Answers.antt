use Rattle.std.proofs.Common.{ℕ, List, subst}
use Rattle.ledger_run.{specs.Finishing.{LeavesFit}, specs.Runs.{seen_ledger}, proofs.Leaving.{leaves_none, leaves_fit, opens_finished}}
use Rattle.ledger_run.proofs.opening.open_behind.Goals as goal

pub returns-clause-opens : goal.returns-clause-opens
returns-clause-opens g c =
    opens_finished g.D.Disk.calls g.M.Machine.step (seen_ledger c.args.known) (g.M.Machine.behind c.args.machine.now) (seen_ledger c.in_ok-ledger.ledger) (g.M.Machine.behind c.read_chain.new.machine) c.deref.result.now c.in_ok-left.left.items c.args.disk.now
    c.read_chain.new.disk c.finish_claims.new.disk c.in_ok-ledger.ensures c.in_ok-left.ensures.did

pub returns-clause-finished : goal.returns-clause-finished
returns-clause-finished g c = leaves_none g.D.Disk.calls c.deref.result.now c.in_ok-left.left.items c.read_chain.new.disk c.finish_claims.new.disk c.in_ok-left.ensures.did

pub returns-clause-fit : goal.returns-clause-fit
returns-clause-fit g c =
    subst (λ (drops : List ℕ). LeavesFit g.D.Disk.calls drops c.in_ok-left.left.items c.finish_claims.new.disk) c.deref.ensures.value
    (leaves_fit g.D.Disk.calls c.deref.result.now c.in_ok-left.left.items c.read_chain.new.disk c.finish_claims.new.disk c.in_ok-left.ensures.did)
