use Rattle.ledger_pruning.proofs.Splitting.{reads_the_rest}
use Rattle.ledger_pruning.proofs.laws.reads_the_rest.Goals as goal

pub returns : goal.returns
returns c = reads_the_rest
