use Rattle.ledger_index.proofs.Sealing.{opens_itself}
use Rattle.ledger_index.proofs.laws.opens_itself.Goals as goal

pub returns : goal.returns
returns c = opens_itself c.reads_back.ensures
