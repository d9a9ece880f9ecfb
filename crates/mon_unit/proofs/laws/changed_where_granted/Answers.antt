use Rattle.mon_unit.proofs.Exchanges.{changed_where_granted}
use Rattle.mon_unit.proofs.laws.changed_where_granted.Goals as goal

pub returns : goal.returns
returns c = changed_where_granted
