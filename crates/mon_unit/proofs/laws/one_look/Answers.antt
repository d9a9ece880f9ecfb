use Rattle.mon_unit.proofs.Looks.{one_look}
use Rattle.mon_unit.proofs.laws.one_look.Goals as goal

pub returns : goal.returns
returns c = one_look
