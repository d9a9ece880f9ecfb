use Rattle.parts_laws.proofs.Threading.{marks_picked}
use Rattle.parts_laws.proofs.laws.marks_picked.Goals as goal

pub returns : goal.returns
returns g c = marks_picked
