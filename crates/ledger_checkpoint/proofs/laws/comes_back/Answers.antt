use Rattle.ledger_checkpoint.proofs.Leading.{comes_back}
use Rattle.ledger_checkpoint.proofs.laws.comes_back.Goals as goal

pub returns : goal.returns
returns c = comes_back c.texts_lead.ensures c.reads_back.ensures c.pieces_lead.ensures c.goes_on.ensures
