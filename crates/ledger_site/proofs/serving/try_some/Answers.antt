use Rattle.std.proofs.Common.{◌≡◌, ◌+◌, refl, subst, arith}
use Rattle.ledger_run.specs.declared.attempts.Attempt.{Attempt}
use Rattle.ledger_run.specs.Attempts.{CameTo}
use Rattle.ledger_run.specs.Runs.{seen_ledger}
use Rattle.ledger_run.proofs.Safety.{still_safe, still_on, safe_then, on_then}
use Rattle.ledger_site.proofs.serving.try_some.Goals as goal

pub loop-init : goal.loop-init
loop-init g c = record {
  safe = still_safe g.D.Disk.calls g.M.Machine.step (seen_ledger c.args.ledger.now) (g.M.Machine.behind c.args.machine.now) c.args.disk.now c.args.disk.now refl;
  on = still_on g.D.Disk.calls g.M.Machine.step (seen_ledger c.args.ledger.now) (g.M.Machine.behind c.args.machine.now) c.args.disk.now c.args.disk.now refl;
  ran = omega arith;
}

pub returns-in_err-try_first-clause-any_moment : goal.returns-in_err-try_first-clause-any_moment
returns-in_err-try_first-clause-any_moment g c =
    safe_then g.D.Disk.calls g.M.Machine.step (seen_ledger c.args.ledger.now) (seen_ledger c.loop.ledger) (g.M.Machine.behind c.args.machine.now) (g.M.Machine.behind c.loop.machine)
    c.args.disk.now c.loop.disk c.try_first.new.disk c.loop.invariant.safe c.loop.invariant.on c.try_first.ensures.any_moment

pub loop-preserved : goal.loop-preserved
loop-preserved g c = record {
  safe =
      safe_then g.D.Disk.calls g.M.Machine.step (seen_ledger c.args.ledger.now) (seen_ledger c.loop.ledger) (g.M.Machine.behind c.args.machine.now) (g.M.Machine.behind c.loop.machine)
      c.args.disk.now c.loop.disk c.try_first.new.disk c.loop.invariant.safe c.loop.invariant.on c.try_first.ensures.any_moment;
  on =
      on_then g.D.Disk.calls g.M.Machine.step (seen_ledger c.args.ledger.now) (seen_ledger c.loop.ledger) (seen_ledger c.try_first.new.ledger) (g.M.Machine.behind c.args.machine.now)
      (g.M.Machine.behind c.loop.machine) (g.M.Machine.behind c.try_first.new.machine) c.args.disk.now c.loop.disk c.try_first.new.disk c.loop.invariant.on c.in_ok-try_first.ensures.done;
  ran = (let one : c.try_first.new.ledger.commits ≡ c.loop.ledger.commits + 1 =
      subst (λ (made : Attempt). CameTo g.D.Disk.calls made (seen_ledger c.loop.ledger) (seen_ledger c.try_first.new.ledger) c.loop.disk c.try_first.new.disk) c.in-Ran.is c.in_ok-try_first.ensures.came in
      let before = c.loop.invariant.ran in
      omega (arith, one, before));
}

pub returns-in-NoneWaits-clause-any_moment : goal.returns-in-NoneWaits-clause-any_moment
returns-in-NoneWaits-clause-any_moment g c =
    safe_then g.D.Disk.calls g.M.Machine.step (seen_ledger c.args.ledger.now) (seen_ledger c.loop.ledger) (g.M.Machine.behind c.args.machine.now) (g.M.Machine.behind c.loop.machine)
    c.args.disk.now c.loop.disk c.try_first.new.disk c.loop.invariant.safe c.loop.invariant.on c.try_first.ensures.any_moment

pub returns-in-NoneWaits-clause-done : goal.returns-in-NoneWaits-clause-done
returns-in-NoneWaits-clause-done g c =
    on_then g.D.Disk.calls g.M.Machine.step (seen_ledger c.args.ledger.now) (seen_ledger c.loop.ledger) (seen_ledger c.try_first.new.ledger) (g.M.Machine.behind c.args.machine.now)
    (g.M.Machine.behind c.loop.machine) (g.M.Machine.behind c.try_first.new.machine) c.args.disk.now c.loop.disk c.try_first.new.disk c.loop.invariant.on c.in_ok-try_first.ensures.done

pub returns-in-BrokenOff-clause-any_moment : goal.returns-in-BrokenOff-clause-any_moment
returns-in-BrokenOff-clause-any_moment g c =
    safe_then g.D.Disk.calls g.M.Machine.step (seen_ledger c.args.ledger.now) (seen_ledger c.loop.ledger) (g.M.Machine.behind c.args.machine.now) (g.M.Machine.behind c.loop.machine)
    c.args.disk.now c.loop.disk c.try_first.new.disk c.loop.invariant.safe c.loop.invariant.on c.try_first.ensures.any_moment

pub returns-in-BrokenOff-clause-done : goal.returns-in-BrokenOff-clause-done
returns-in-BrokenOff-clause-done g c =
    on_then g.D.Disk.calls g.M.Machine.step (seen_ledger c.args.ledger.now) (seen_ledger c.loop.ledger) (seen_ledger c.try_first.new.ledger) (g.M.Machine.behind c.args.machine.now)
    (g.M.Machine.behind c.loop.machine) (g.M.Machine.behind c.try_first.new.machine) c.args.disk.now c.loop.disk c.try_first.new.disk c.loop.invariant.on c.in_ok-try_first.ensures.done
