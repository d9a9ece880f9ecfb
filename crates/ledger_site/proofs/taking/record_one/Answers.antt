use Rattle.std.proofs.Common.{refl}
use Rattle.ledger_run.specs.Runs.{seen_ledger}
use Rattle.ledger_run.proofs.Safety.{still_safe, still_on}
use Rattle.ledger_site.proofs.taking.record_one.Goals as goal

pub returns-then-due-ledger-clause-any_moment : goal.returns-then-due-ledger-clause-any_moment
returns-then-due-ledger-clause-any_moment g c =
    still_safe g.D.Disk.calls g.M.Machine.step (seen_ledger c.args.ledger.now) (g.M.Machine.behind c.args.machine.now) c.args.disk.now c.args.disk.now refl

pub returns-then-due-ledger-clause-done : goal.returns-then-due-ledger-clause-done
returns-then-due-ledger-clause-done g c =
    still_on g.D.Disk.calls g.M.Machine.step (seen_ledger c.args.ledger.now) (g.M.Machine.behind c.args.machine.now) c.args.disk.now c.args.disk.now refl
