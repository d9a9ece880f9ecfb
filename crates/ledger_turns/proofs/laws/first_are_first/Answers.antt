use Rattle.ledger_turns.proofs.Sorting.{first_are_first}
use Rattle.ledger_turns.proofs.laws.first_are_first.Goals as goal

pub returns : goal.returns
returns c = first_are_first
