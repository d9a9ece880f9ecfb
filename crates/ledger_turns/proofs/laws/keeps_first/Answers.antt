use Rattle.ledger_turns.proofs.Sorting.{keeps_first}
use Rattle.ledger_turns.proofs.laws.keeps_first.Goals as goal

pub returns : goal.returns
returns c = keeps_first
