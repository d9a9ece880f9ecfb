use Rattle.deck_run.proofs.ShownRecords.{shows_where_granted}
use Rattle.deck_run.proofs.laws.shows_where_granted.Goals as goal

pub returns : goal.returns
returns c = shows_where_granted
