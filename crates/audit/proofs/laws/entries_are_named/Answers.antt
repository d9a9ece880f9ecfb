use Rattle.audit.proofs.Named.{entries_are_named}
use Rattle.audit.proofs.laws.entries_are_named.Goals as goal

pub returns : goal.returns
returns c = entries_are_named c.named_where_granted.ensures c.names_an_entry.ensures
