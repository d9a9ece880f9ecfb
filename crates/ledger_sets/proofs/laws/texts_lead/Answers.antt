use Rattle.ledger_sets.proofs.Written.{texts_lead}
use Rattle.ledger_sets.proofs.laws.texts_lead.Goals as goal

pub returns : goal.returns
returns c = texts_lead c.reads_back.ensures c.reads_records.ensures
