use Rattle.ledger_index.proofs.Sealing.{refuses_parts}
use Rattle.ledger_index.proofs.laws.refuses_parts.Goals as goal

pub returns : goal.returns
returns c = refuses_parts c.refuses_parts.ensures
