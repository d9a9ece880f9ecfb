use Rattle.rounds.proofs.Example.{they_find_alike}
use Rattle.rounds.proofs.laws.they_find_alike.Goals as goal

pub returns : goal.returns
returns c = they_find_alike
