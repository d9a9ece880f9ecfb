use Rattle.ledger_turns.proofs.Fairness.{fair_order}
use Rattle.ledger_turns.proofs.laws.fair_order.Goals as goal

pub returns : goal.returns
returns g c = fair_order
