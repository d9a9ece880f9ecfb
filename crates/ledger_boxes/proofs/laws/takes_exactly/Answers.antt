use Rattle.ledger_boxes.proofs.Exactly.{takes_exactly}
use Rattle.ledger_boxes.proofs.laws.takes_exactly.Goals as goal

pub returns : goal.returns
returns c = takes_exactly c.one_verdict.ensures
