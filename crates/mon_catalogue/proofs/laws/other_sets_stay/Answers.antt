use Rattle.mon_catalogue.proofs.Changed.{other_sets_stay}
use Rattle.mon_catalogue.proofs.laws.other_sets_stay.Goals as goal

pub returns : goal.returns
returns c = other_sets_stay
