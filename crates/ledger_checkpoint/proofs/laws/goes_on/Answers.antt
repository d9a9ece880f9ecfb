use Rattle.ledger_checkpoint.proofs.Leading.{goes_on}
use Rattle.ledger_checkpoint.proofs.laws.goes_on.Goals as goal

pub returns : goal.returns
returns c = goes_on
