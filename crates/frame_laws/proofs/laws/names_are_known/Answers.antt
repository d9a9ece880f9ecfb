use Rattle.frame_laws.proofs.Owning.{names_are_known}
use Rattle.frame_laws.proofs.laws.names_are_known.Goals as goal

pub returns : goal.returns
returns c = names_are_known
