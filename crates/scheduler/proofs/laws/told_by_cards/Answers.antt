use Rattle.scheduler.proofs.Carding.{told}
use Rattle.scheduler.proofs.laws.told_by_cards.Goals as goal

pub returns : goal.returns
returns c = told
