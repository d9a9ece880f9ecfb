use Rattle.ledger_checkpoint.proofs.Leading.{pieces_lead}
use Rattle.ledger_checkpoint.proofs.laws.pieces_lead.Goals as goal

pub returns : goal.returns
returns c = pieces_lead c.texts_lead.ensures c.changes_lead.ensures
