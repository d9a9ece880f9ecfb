use Rattle.ledger_text.proofs.Reading.{refuses_parts}
use Rattle.ledger_text.proofs.laws.refuses_parts.Goals as goal

pub returns : goal.returns
returns c = refuses_parts
