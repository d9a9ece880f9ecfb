use Rattle.ledger_index.proofs.Sealing.{opens_one}
use Rattle.ledger_index.proofs.laws.opens_one.Goals as goal

pub returns : goal.returns
returns c = opens_one c.reads_back.ensures
