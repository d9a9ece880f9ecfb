use Rattle.mon_guard.proofs.Lent.{lends_where_granted}
use Rattle.mon_guard.proofs.laws.lends_where_granted.Goals as goal

pub returns : goal.returns
returns c = lends_where_granted
