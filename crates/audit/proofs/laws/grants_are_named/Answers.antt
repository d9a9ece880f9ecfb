use Rattle.audit.proofs.Named.{grants_are_named}
use Rattle.audit.proofs.laws.grants_are_named.Goals as goal

pub returns : goal.returns
returns c = grants_are_named c.entries_are_named.ensures
