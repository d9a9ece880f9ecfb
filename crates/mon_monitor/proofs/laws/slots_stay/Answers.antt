use Rattle.mon_monitor.proofs.Histories.{slots_stay}
use Rattle.mon_monitor.proofs.laws.slots_stay.Goals as goal

pub returns : goal.returns
returns c = slots_stay
