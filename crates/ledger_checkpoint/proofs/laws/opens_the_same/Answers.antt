use Rattle.ledger_checkpoint.proofs.Leading.{opens_the_same}
use Rattle.ledger_checkpoint.proofs.laws.opens_the_same.Goals as goal

pub returns : goal.returns
returns c = opens_the_same c.opens_one.ensures c.picked_are_own.ensures c.comes_back.ensures c.goes_on.ensures
