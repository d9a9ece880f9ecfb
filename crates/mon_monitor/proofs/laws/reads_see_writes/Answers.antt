use Rattle.mon_monitor.proofs.Seeing.{reads_see_writes}
use Rattle.mon_monitor.proofs.laws.reads_see_writes.Goals as goal

pub returns : goal.returns
returns c = reads_see_writes c.got_where_granted.ensures c.changed_where_granted.ensures
