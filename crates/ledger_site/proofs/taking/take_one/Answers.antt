use Rattle.ledger_run.specs.Runs.{seen_ledger}
use Rattle.ledger_run.proofs.Safety.{safe_then, on_then}
use Rattle.ledger_site.proofs.taking.take_one.Goals as goal

pub returns-in_err-remove_claimed-clause-any_moment : goal.returns-in_err-remove_claimed-clause-any_moment
returns-in_err-remove_claimed-clause-any_moment g c =
    safe_then g.D.Disk.calls g.M.Machine.step (seen_ledger c.args.ledger.now) (seen_ledger c.record_one.new.ledger) (g.M.Machine.behind c.args.machine.now) (g.M.Machine.behind c.record_one.new.machine)
    c.args.disk.now c.record_one.new.disk c.remove_claimed.new.disk c.record_one.ensures.any_moment c.in_ok-record_one.ensures.done c.remove_claimed.ensures.any_moment

pub returns-clause-any_moment : goal.returns-clause-any_moment
returns-clause-any_moment g c =
    safe_then g.D.Disk.calls g.M.Machine.step (seen_ledger c.args.ledger.now) (seen_ledger c.record_one.new.ledger) (g.M.Machine.behind c.args.machine.now) (g.M.Machine.behind c.record_one.new.machine)
    c.args.disk.now c.record_one.new.disk c.remove_claimed.new.disk c.record_one.ensures.any_moment c.in_ok-record_one.ensures.done c.remove_claimed.ensures.any_moment

pub returns-clause-done : goal.returns-clause-done
returns-clause-done g c =
    on_then g.D.Disk.calls g.M.Machine.step (seen_ledger c.args.ledger.now) (seen_ledger c.record_one.new.ledger) (seen_ledger c.record_one.new.ledger)
    (g.M.Machine.behind c.args.machine.now) (g.M.Machine.behind c.record_one.new.machine) (g.M.Machine.behind c.record_one.new.machine) c.args.disk.now c.record_one.new.disk c.remove_claimed.new.disk c.in_ok-record_one.ensures.done c.in_ok-remove_claimed.ensures.done
