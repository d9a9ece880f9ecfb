use Rattle.ledger_pruning.proofs.Greatest.{starts_there}
use Rattle.ledger_pruning.proofs.laws.starts_there.Goals as goal

pub returns : goal.returns
returns c = starts_there
