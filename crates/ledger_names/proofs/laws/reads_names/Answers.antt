use Rattle.ledger_names.proofs.Names.{reads_names}
use Rattle.ledger_names.proofs.laws.reads_names.Goals as goal

pub returns : goal.returns
returns c = reads_names
