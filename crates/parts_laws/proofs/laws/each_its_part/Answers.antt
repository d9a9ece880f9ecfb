use Rattle.parts_laws.proofs.Running.{each_its_part}
use Rattle.parts_laws.proofs.laws.each_its_part.Goals as goal

pub returns : goal.returns
returns g c = each_its_part
