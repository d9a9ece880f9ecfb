use Rattle.std.proofs.Common.{refl}
use Rattle.ledger_run.specs.Runs.{seen_ledger}
use Rattle.ledger_run.proofs.Safety.{still_safe, still_on, safe_then, on_then}
use Rattle.ledger_site.proofs.taking.take_each.Goals as goal

pub loop-held-init : goal.loop-held-init
loop-held-init g c = record {
  safe = still_safe g.D.Disk.calls g.M.Machine.step (seen_ledger c.args.ledger.now) (g.M.Machine.behind c.args.machine.now) c.args.disk.now c.args.disk.now refl;
  on = still_on g.D.Disk.calls g.M.Machine.step (seen_ledger c.args.ledger.now) (g.M.Machine.behind c.args.machine.now) c.args.disk.now c.args.disk.now refl;
}

pub returns-in_err-take_held-clause-any_moment : goal.returns-in_err-take_held-clause-any_moment
returns-in_err-take_held-clause-any_moment g c =
    safe_then g.D.Disk.calls g.M.Machine.step (seen_ledger c.args.ledger.now) (seen_ledger c.loop-held.ledger) (g.M.Machine.behind c.args.machine.now) (g.M.Machine.behind c.loop-held.machine)
    c.args.disk.now c.loop-held.disk c.take_held.new.disk c.loop-held.invariant.safe c.loop-held.invariant.on c.take_held.ensures.any_moment

pub loop-held-preserved : goal.loop-held-preserved
loop-held-preserved g c = record {
  safe =
      safe_then g.D.Disk.calls g.M.Machine.step (seen_ledger c.args.ledger.now) (seen_ledger c.loop-held.ledger) (g.M.Machine.behind c.args.machine.now) (g.M.Machine.behind c.loop-held.machine)
      c.args.disk.now c.loop-held.disk c.take_held.new.disk c.loop-held.invariant.safe c.loop-held.invariant.on c.take_held.ensures.any_moment;
  on =
      on_then g.D.Disk.calls g.M.Machine.step (seen_ledger c.args.ledger.now) (seen_ledger c.loop-held.ledger) (seen_ledger c.take_held.new.ledger) (g.M.Machine.behind c.args.machine.now)
      (g.M.Machine.behind c.loop-held.machine) (g.M.Machine.behind c.take_held.new.machine) c.args.disk.now c.loop-held.disk c.take_held.new.disk c.loop-held.invariant.on c.in_ok-take_held.ensures.done;
}
