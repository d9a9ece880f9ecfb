use Rattle.mon_command.proofs.Changed.{other_sets_stay}
use Rattle.mon_command.proofs.laws.other_sets_stay.Goals as goal

pub returns : goal.returns
returns c = other_sets_stay c.other_sets_stay.ensures
