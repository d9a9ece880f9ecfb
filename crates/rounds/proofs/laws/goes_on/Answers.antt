use Rattle.rounds.proofs.GoingOn.{goes_on}
use Rattle.rounds.proofs.laws.goes_on.Goals as goal

pub returns : goal.returns
returns c = goes_on c.never_refused.ensures
