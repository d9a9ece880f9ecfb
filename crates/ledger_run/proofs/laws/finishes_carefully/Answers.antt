use Rattle.ledger_run.proofs.Leaving.{finishes_carefully}
use Rattle.ledger_run.proofs.laws.finishes_carefully.Goals as goal

pub returns : goal.returns
returns c = finishes_carefully
