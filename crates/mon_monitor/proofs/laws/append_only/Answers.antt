use Rattle.mon_monitor.proofs.Appending.{append_only}
use Rattle.mon_monitor.proofs.laws.append_only.Goals as goal

pub returns : goal.returns
returns c = append_only c.changed_where_granted.ensures
