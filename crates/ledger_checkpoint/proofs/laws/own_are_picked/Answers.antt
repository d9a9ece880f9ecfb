use Rattle.ledger_checkpoint.proofs.Picked.{own_are_picked}
use Rattle.ledger_checkpoint.proofs.laws.own_are_picked.Goals as goal

pub returns : goal.returns
returns c = own_are_picked
