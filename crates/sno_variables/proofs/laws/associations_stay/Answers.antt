use Rattle.sno_variables.proofs.Assigned.{associations_stay}
use Rattle.sno_variables.proofs.laws.associations_stay.Goals as goal

pub returns : goal.returns
returns c = associations_stay
