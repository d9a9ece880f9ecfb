use Rattle.mon_guard.proofs.Owned.{owners_remove}
use Rattle.mon_guard.proofs.laws.owners_remove.Goals as goal

pub returns : goal.returns
returns c = owners_remove
