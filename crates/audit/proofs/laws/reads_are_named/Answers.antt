use Rattle.audit.proofs.Named.{reads_are_named}
use Rattle.audit.proofs.laws.reads_are_named.Goals as goal

pub returns : goal.returns
returns c = reads_are_named c.grants_are_named.ensures c.got_where_granted.ensures
