use Rattle.audit.proofs.Named.{changes_are_named}
use Rattle.audit.proofs.laws.changes_are_named.Goals as goal

pub returns : goal.returns
returns c = changes_are_named c.grants_are_named.ensures c.changed_where_granted.ensures
