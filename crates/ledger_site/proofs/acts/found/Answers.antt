use Rattle.ledger_run.specs.Runs.{seen_ledger}
use Rattle.ledger_run.proofs.Safety.{safe_then, on_then}
use Rattle.ledger_site.proofs.acts.found.Goals as goal

pub returns-in_err-edit-2-clause-any_moment : goal.returns-in_err-edit-2-clause-any_moment
returns-in_err-edit-2-clause-any_moment g c =
    safe_then g.D.Disk.calls g.M.Machine.step (seen_ledger c.args.ledger.now) (seen_ledger c.edit.new.ledger) (g.M.Machine.behind c.args.machine.now) (g.M.Machine.behind c.edit.new.machine)
    c.args.disk.now c.edit.new.disk c.edit-2.new.disk c.edit.ensures.any_moment c.in_ok-edit.ensures.done c.edit-2.ensures.any_moment

pub returns-clause-any_moment : goal.returns-clause-any_moment
returns-clause-any_moment g c =
    safe_then g.D.Disk.calls g.M.Machine.step (seen_ledger c.args.ledger.now) (seen_ledger c.edit.new.ledger) (g.M.Machine.behind c.args.machine.now) (g.M.Machine.behind c.edit.new.machine)
    c.args.disk.now c.edit.new.disk c.edit-2.new.disk c.edit.ensures.any_moment c.in_ok-edit.ensures.done c.edit-2.ensures.any_moment

pub returns-clause-done : goal.returns-clause-done
returns-clause-done g c =
    on_then g.D.Disk.calls g.M.Machine.step (seen_ledger c.args.ledger.now) (seen_ledger c.edit.new.ledger) (seen_ledger c.edit-2.new.ledger)
    (g.M.Machine.behind c.args.machine.now) (g.M.Machine.behind c.edit.new.machine) (g.M.Machine.behind c.edit-2.new.machine) c.args.disk.now c.edit.new.disk c.edit-2.new.disk c.in_ok-edit.ensures.done c.in_ok-edit-2.ensures.done
