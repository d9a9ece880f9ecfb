use Rattle.rounds.proofs.Telling.{each_tells}
use Rattle.rounds.proofs.laws.each_tells.Goals as goal

pub returns : goal.returns
returns c = each_tells c.history_tells.ensures
