use Rattle.ledger_run.proofs.OpeningUp.{restarts}
use Rattle.ledger_run.proofs.laws.restarts.Goals as goal

pub returns : goal.returns
returns c = restarts
