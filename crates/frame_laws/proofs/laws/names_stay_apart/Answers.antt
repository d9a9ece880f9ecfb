use Rattle.frame_laws.proofs.Parting.{names_stay_apart}
use Rattle.frame_laws.proofs.laws.names_stay_apart.Goals as goal

pub returns : goal.returns
returns c = names_stay_apart
