use Rattle.ledger_text.proofs.Saying.{reads_records}
use Rattle.ledger_text.proofs.laws.reads_records.Goals as goal

pub returns : goal.returns
returns c = reads_records
