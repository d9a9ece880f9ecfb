use Rattle.mon_catalogue.proofs.Changed.{order_stays}
use Rattle.mon_catalogue.proofs.laws.order_stays.Goals as goal

pub returns : goal.returns
returns c = order_stays
