use Rattle.ledger_run.{specs.Runs.{seen_ledger}, proofs.Safety.{safe_then, on_then}}
use Rattle.ledger_run.proofs.running.run_and_give.Goals as goal

pub returns-in_err-give-clause-any_moment : goal.returns-in_err-give-clause-any_moment
returns-in_err-give-clause-any_moment g c =
    safe_then g.D.Disk.calls g.M.Machine.step (seen_ledger c.args.ledger.now) (seen_ledger c.run_texts.new.ledger)
    (g.M.Machine.behind c.args.machine.now) (g.M.Machine.behind c.run_texts.new.machine) c.args.disk.now c.run_texts.new.disk c.give.new.disk
    c.run_texts.ensures.any_moment c.in_ok-run_texts.ensures.done c.give.ensures.any_moment

pub returns-clause-any_moment : goal.returns-clause-any_moment
returns-clause-any_moment g c =
    safe_then g.D.Disk.calls g.M.Machine.step (seen_ledger c.args.ledger.now) (seen_ledger c.run_texts.new.ledger)
    (g.M.Machine.behind c.args.machine.now) (g.M.Machine.behind c.run_texts.new.machine) c.args.disk.now c.run_texts.new.disk c.give.new.disk
    c.run_texts.ensures.any_moment c.in_ok-run_texts.ensures.done c.give.ensures.any_moment

pub returns-clause-done : goal.returns-clause-done
returns-clause-done g c =
    on_then g.D.Disk.calls g.M.Machine.step (seen_ledger c.args.ledger.now) (seen_ledger c.run_texts.new.ledger) (seen_ledger c.give.new.ledger)
    (g.M.Machine.behind c.args.machine.now) (g.M.Machine.behind c.run_texts.new.machine) (g.M.Machine.behind c.give.new.machine) c.args.disk.now c.run_texts.new.disk c.give.new.disk
    c.in_ok-run_texts.ensures.done c.in_ok-give.ensures.done
