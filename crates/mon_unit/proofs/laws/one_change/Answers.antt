use Rattle.mon_unit.proofs.Looks.{one_change}
use Rattle.mon_unit.proofs.laws.one_change.Goals as goal

pub returns : goal.returns
returns c = one_change
