use Rattle.ledger_tables.proofs.LimitsBack.{reads_limits}
use Rattle.ledger_tables.proofs.laws.reads_limits.Goals as goal

pub returns : goal.returns
returns c = reads_limits
