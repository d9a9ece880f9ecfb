use Rattle.std.proofs.Common.{refl, sym, ◌∙◌}
use Rattle.ledger_run.{specs.Runs.{seen_ledger}, proofs.Safety.{still_safe, still_on}, proofs.Answering.{none_waits, first_dropped}}
use Rattle.ledger_run.proofs.attempts.drop_first.Goals as goal

pub returns-in_default-clause-any_moment : goal.returns-in_default-clause-any_moment
returns-in_default-clause-any_moment g c = still_safe g.D.Disk.calls g.M.Machine.step (seen_ledger c.args.ledger.now) (g.M.Machine.behind c.args.machine.now) c.args.disk.now c.args.disk.now refl

pub returns-in_default-clause-done : goal.returns-in_default-clause-done
returns-in_default-clause-done g c = still_on g.D.Disk.calls g.M.Machine.step (seen_ledger c.args.ledger.now) (g.M.Machine.behind c.args.machine.now) c.args.disk.now c.args.disk.now refl

pub returns-in_default-clause-none : goal.returns-in_default-clause-none
returns-in_default-clause-none g c = λ e. none_waits (seen_ledger c.args.ledger.now).waiting (sym c.in_default.is ∙ c.first_number.ensures)

pub returns-clause-dropped : goal.returns-clause-dropped
returns-clause-dropped g c =
    λ e. first_dropped c.in-Some.number _ _ _ (seen_ledger c.args.ledger.now) (seen_ledger c.record_act.new.ledger) (sym c.first_number.ensures ∙ c.in-Some.is)
    c.in_ok-record_act.ensures.recorded
