use Rattle.std.proofs.Common.{refl}
use Rattle.ledger_run.{specs.Runs.{seen_ledger}, proofs.Safety.{still_safe, still_on, safe_then, on_then}}
use Rattle.ledger_run.proofs.recording.give.Goals as goal

pub returns-in_default-clause-any_moment : goal.returns-in_default-clause-any_moment
returns-in_default-clause-any_moment g c = still_safe g.D.Disk.calls g.M.Machine.step (seen_ledger c.args.ledger.now) (g.M.Machine.behind c.args.machine.now) c.args.disk.now c.args.disk.now refl

pub returns-in_default-clause-done : goal.returns-in_default-clause-done
returns-in_default-clause-done g c = still_on g.D.Disk.calls g.M.Machine.step (seen_ledger c.args.ledger.now) (g.M.Machine.behind c.args.machine.now) c.args.disk.now c.args.disk.now refl

pub returns-in_err-record_act-clause-any_moment : goal.returns-in_err-record_act-clause-any_moment
returns-in_err-record_act-clause-any_moment g c =
    safe_then g.D.Disk.calls g.M.Machine.step (seen_ledger c.args.ledger.now) (seen_ledger c.args.ledger.now) (g.M.Machine.behind c.args.machine.now) (g.M.Machine.behind c.args.machine.now)
    c.args.disk.now c.put_owed.new.disk c.record_act.new.disk c.in_ok-put_owed.ensures.any_moment c.in_ok-put_owed.ensures.done c.in_err-record_act.ensures.any_moment

pub returns-clause-any_moment : goal.returns-clause-any_moment
returns-clause-any_moment g c =
    safe_then g.D.Disk.calls g.M.Machine.step (seen_ledger c.args.ledger.now) (seen_ledger c.args.ledger.now) (g.M.Machine.behind c.args.machine.now) (g.M.Machine.behind c.args.machine.now)
    c.args.disk.now c.put_owed.new.disk c.record_act.new.disk c.in_ok-put_owed.ensures.any_moment c.in_ok-put_owed.ensures.done c.in_ok-record_act.ensures.any_moment

pub returns-clause-done : goal.returns-clause-done
returns-clause-done g c =
    on_then g.D.Disk.calls g.M.Machine.step (seen_ledger c.args.ledger.now) (seen_ledger c.args.ledger.now) (seen_ledger c.record_act.new.ledger) (g.M.Machine.behind c.args.machine.now)
    (g.M.Machine.behind c.args.machine.now) (g.M.Machine.behind c.record_act.new.machine) c.args.disk.now c.put_owed.new.disk c.record_act.new.disk c.in_ok-put_owed.ensures.done c.in_ok-record_act.ensures.done
