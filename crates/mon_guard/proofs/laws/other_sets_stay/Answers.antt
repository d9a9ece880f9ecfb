use Rattle.mon_guard.proofs.Owned.{other_sets_stay}
use Rattle.mon_guard.proofs.laws.other_sets_stay.Goals as goal

pub returns : goal.returns
returns c = other_sets_stay c.other_sets_stay.ensures
