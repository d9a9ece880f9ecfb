use Rattle.ledger_stretches.proofs.Taking.{runs_were_taken}
use Rattle.ledger_stretches.proofs.laws.runs_were_taken.Goals as goal

pub returns : goal.returns
returns g c = runs_were_taken
