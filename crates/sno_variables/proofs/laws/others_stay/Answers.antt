use Rattle.sno_variables.proofs.Looking.{others_stay}
use Rattle.sno_variables.proofs.laws.others_stay.Goals as goal

pub returns : goal.returns
returns c = others_stay
