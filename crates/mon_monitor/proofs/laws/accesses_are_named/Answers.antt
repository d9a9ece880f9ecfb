use Rattle.mon_monitor.proofs.Named.{accesses_named}
use Rattle.mon_monitor.proofs.laws.accesses_are_named.Goals as goal

pub returns : goal.returns
returns c = accesses_named c.entries_are_named.ensures c.grants_are_named.ensures c.changes_are_named.ensures c.lends_where_granted.ensures
