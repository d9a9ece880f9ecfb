use Rattle.mon_guard.proofs.Owned.{owners_set_lists}
use Rattle.mon_guard.proofs.laws.owners_set_lists.Goals as goal

pub returns : goal.returns
returns c = owners_set_lists
