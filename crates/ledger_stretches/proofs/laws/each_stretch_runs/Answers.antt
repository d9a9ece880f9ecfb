use Rattle.ledger_stretches.proofs.Running.{each_stretch_runs}
use Rattle.ledger_stretches.proofs.laws.each_stretch_runs.Goals as goal

pub returns : goal.returns
returns g c = each_stretch_runs
