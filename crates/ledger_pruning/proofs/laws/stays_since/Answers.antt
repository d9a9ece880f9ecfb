use Rattle.ledger_pruning.proofs.Splitting.{stays_since}
use Rattle.ledger_pruning.proofs.laws.stays_since.Goals as goal

pub returns : goal.returns
returns c = stays_since
