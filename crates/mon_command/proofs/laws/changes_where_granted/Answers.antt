use Rattle.mon_command.proofs.Changed.{changes_where_granted}
use Rattle.mon_command.proofs.laws.changes_where_granted.Goals as goal

pub returns : goal.returns
returns c = changes_where_granted c.owners_remove.ensures c.owners_set_lists.ensures c.makers_own.ensures
