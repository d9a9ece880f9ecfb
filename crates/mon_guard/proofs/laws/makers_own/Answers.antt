use Rattle.mon_guard.proofs.Owned.{makers_own}
use Rattle.mon_guard.proofs.laws.makers_own.Goals as goal

pub returns : goal.returns
returns c = makers_own
