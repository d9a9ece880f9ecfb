use Rattle.std.proofs.Common.{refl}
use Rattle.ledger_run.specs.Runs.{seen_ledger}
use Rattle.ledger_run.proofs.Safety.{still_safe}
use Rattle.ledger_site.proofs.taking.take_held.Goals as goal

pub returns-in-None-clause-any_moment : goal.returns-in-None-clause-any_moment
returns-in-None-clause-any_moment g c =
    still_safe g.D.Disk.calls g.M.Machine.step (seen_ledger c.args.ledger.now) (g.M.Machine.behind c.args.machine.now) c.args.disk.now c.args.disk.now refl
