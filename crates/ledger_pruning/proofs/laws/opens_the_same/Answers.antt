use Rattle.ledger_pruning.proofs.Splitting.{opens_the_same}
use Rattle.ledger_pruning.proofs.laws.opens_the_same.Goals as goal

pub returns : goal.returns
returns c = opens_the_same
