use Rattle.ledger_pruning.proofs.Greatest.{starts_last}
use Rattle.ledger_pruning.proofs.laws.starts_last.Goals as goal

pub returns : goal.returns
returns c = starts_last
