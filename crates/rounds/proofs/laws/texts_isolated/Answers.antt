use Rattle.rounds.proofs.Isolated.{texts_isolated}
use Rattle.rounds.proofs.laws.texts_isolated.Goals as goal

pub returns : goal.returns
returns c = texts_isolated c.isolated.ensures
