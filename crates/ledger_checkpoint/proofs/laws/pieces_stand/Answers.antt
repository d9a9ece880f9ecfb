use Rattle.ledger_checkpoint.proofs.Picked.{pieces_stand}
use Rattle.ledger_checkpoint.proofs.laws.pieces_stand.Goals as goal

pub returns : goal.returns
returns c = pieces_stand
