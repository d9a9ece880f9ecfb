use Rattle.mon_monitor.proofs.Schedules.{each_as_alone}
use Rattle.mon_monitor.proofs.isolation.each_as_alone.Goals as goal

pub returns : goal.returns
returns c = each_as_alone
