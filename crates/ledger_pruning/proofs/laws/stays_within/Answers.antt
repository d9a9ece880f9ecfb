use Rattle.ledger_pruning.proofs.Splitting.{stays_within}
use Rattle.ledger_pruning.proofs.laws.stays_within.Goals as goal

pub returns : goal.returns
returns c = stays_within
