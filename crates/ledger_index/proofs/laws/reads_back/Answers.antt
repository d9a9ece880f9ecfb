use Rattle.ledger_index.proofs.Back.{index_back}
use Rattle.ledger_index.proofs.laws.reads_back.Goals as goal

pub returns : goal.returns
returns c = index_back c.reads_back.ensures c.reads_records.ensures
