use Rattle.std.proofs.Common.{refl}
use Rattle.ledger_run.{specs.Runs.{seen_ledger}, proofs.Safety.{still_safe, still_on, safe_then, on_then}}
use Rattle.ledger_run.proofs.running.run_texts.Goals as goal

pub loop-init : goal.loop-init
loop-init g c = record {
  safe = still_safe g.D.Disk.calls g.M.Machine.step (seen_ledger c.args.ledger.now) (g.M.Machine.behind c.args.machine.now) c.args.disk.now c.args.disk.now refl;
  on = still_on g.D.Disk.calls g.M.Machine.step (seen_ledger c.args.ledger.now) (g.M.Machine.behind c.args.machine.now) c.args.disk.now c.args.disk.now refl;
}

pub returns-in_err-run_first-clause-any_moment : goal.returns-in_err-run_first-clause-any_moment
returns-in_err-run_first-clause-any_moment g c =
    safe_then g.D.Disk.calls g.M.Machine.step (seen_ledger c.args.ledger.now) (seen_ledger c.loop.ledger) (g.M.Machine.behind c.args.machine.now) (g.M.Machine.behind c.loop.machine)
    c.args.disk.now c.loop.disk c.run_first.new.disk c.loop.invariant.safe c.loop.invariant.on c.run_first.ensures.any_moment

pub loop-preserved : goal.loop-preserved
loop-preserved g c = record {
  safe =
      safe_then g.D.Disk.calls g.M.Machine.step (seen_ledger c.args.ledger.now) (seen_ledger c.loop.ledger) (g.M.Machine.behind c.args.machine.now) (g.M.Machine.behind c.loop.machine)
      c.args.disk.now c.loop.disk c.run_first.new.disk c.loop.invariant.safe c.loop.invariant.on c.run_first.ensures.any_moment;
  on =
      on_then g.D.Disk.calls g.M.Machine.step (seen_ledger c.args.ledger.now) (seen_ledger c.loop.ledger) (seen_ledger c.run_first.new.ledger) (g.M.Machine.behind c.args.machine.now)
      (g.M.Machine.behind c.loop.machine) (g.M.Machine.behind c.run_first.new.machine) c.args.disk.now c.loop.disk c.run_first.new.disk c.loop.invariant.on c.in_ok-run_first.ensures.done;
}

pub returns-then-not-branch-clause-any_moment : goal.returns-then-not-branch-clause-any_moment
returns-then-not-branch-clause-any_moment g c =
    safe_then g.D.Disk.calls g.M.Machine.step (seen_ledger c.args.ledger.now) (seen_ledger c.loop.ledger) (g.M.Machine.behind c.args.machine.now) (g.M.Machine.behind c.loop.machine)
    c.args.disk.now c.loop.disk c.run_first.new.disk c.loop.invariant.safe c.loop.invariant.on c.run_first.ensures.any_moment

pub returns-then-not-branch-clause-done : goal.returns-then-not-branch-clause-done
returns-then-not-branch-clause-done g c =
    on_then g.D.Disk.calls g.M.Machine.step (seen_ledger c.args.ledger.now) (seen_ledger c.loop.ledger) (seen_ledger c.run_first.new.ledger) (g.M.Machine.behind c.args.machine.now)
    (g.M.Machine.behind c.loop.machine) (g.M.Machine.behind c.run_first.new.machine) c.args.disk.now c.loop.disk c.run_first.new.disk c.loop.invariant.on c.in_ok-run_first.ensures.done
