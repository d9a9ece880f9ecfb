use Rattle.ledger_laws.proofs.Committing.{reads_the_chain}
use Rattle.ledger_laws.proofs.laws.reads_the_chain.Goals as goal

pub returns : goal.returns
returns c = reads_the_chain
