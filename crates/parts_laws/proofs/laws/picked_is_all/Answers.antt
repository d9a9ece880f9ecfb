use Rattle.parts_laws.proofs.Picking.{picked_is_all}
use Rattle.parts_laws.proofs.laws.picked_is_all.Goals as goal

pub returns : goal.returns
returns g c = picked_is_all
