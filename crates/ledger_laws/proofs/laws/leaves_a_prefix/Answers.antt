use Rattle.ledger_laws.proofs.Tracing.{leaves_a_prefix}
use Rattle.ledger_laws.proofs.laws.leaves_a_prefix.Goals as goal

pub returns : goal.returns
returns c = leaves_a_prefix
