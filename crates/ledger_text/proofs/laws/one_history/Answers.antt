use Rattle.ledger_text.proofs.Reading.{one_history}
use Rattle.ledger_text.proofs.laws.one_history.Goals as goal

pub returns : goal.returns
returns c = one_history
