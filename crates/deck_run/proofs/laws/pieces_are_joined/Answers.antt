use Rattle.deck_run.proofs.Beginning.{pieces_are_joined}
use Rattle.deck_run.proofs.laws.pieces_are_joined.Goals as goal

pub returns : goal.returns
returns c = pieces_are_joined
