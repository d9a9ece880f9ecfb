use Rattle.rounds.proofs.Isolated.{sites_isolated}
use Rattle.rounds.proofs.laws.sites_isolated.Goals as goal

pub returns : goal.returns
returns c = sites_isolated c.isolated.ensures c.names_stay_apart.ensures
