use Rattle.mon_monitor.proofs.Schedules.{rearranged}
use Rattle.mon_monitor.proofs.isolation.rearranged.Goals as goal

pub returns : goal.returns
returns c = rearranged
