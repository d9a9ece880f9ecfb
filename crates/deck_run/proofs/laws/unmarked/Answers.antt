use Rattle.deck_run.proofs.Ordered.{unmarked}
use Rattle.deck_run.proofs.laws.unmarked.Goals as goal

pub returns : goal.returns
returns c = unmarked c.unmarked.ensures
