use Rattle.ledger_text.proofs.Reading.{reads_back}
use Rattle.ledger_text.proofs.laws.reads_back.Goals as goal

pub returns : goal.returns
returns c = reads_back
