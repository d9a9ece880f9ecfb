use Rattle.deck_run.proofs.Ahead.{audited}
use Rattle.deck_run.proofs.laws.audited.Goals as goal

pub returns : goal.returns
returns c = audited
