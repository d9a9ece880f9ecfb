use Rattle.parts_laws.proofs.Running.{picked_is_whole}
use Rattle.parts_laws.proofs.laws.picked_is_whole.Goals as goal

pub returns : goal.returns
returns g c = picked_is_whole
