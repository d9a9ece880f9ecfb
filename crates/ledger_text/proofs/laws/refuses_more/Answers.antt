use Rattle.ledger_text.proofs.Reading.{refuses_more}
use Rattle.ledger_text.proofs.laws.refuses_more.Goals as goal

pub returns : goal.returns
returns c = refuses_more
