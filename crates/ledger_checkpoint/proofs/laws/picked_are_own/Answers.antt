use Rattle.ledger_checkpoint.proofs.Picked.{picked_are_own}
use Rattle.ledger_checkpoint.proofs.laws.picked_are_own.Goals as goal

pub returns : goal.returns
returns c = picked_are_own
