use Rattle.mon_monitor.proofs.Schedules.{ends_as_alone}
use Rattle.mon_monitor.proofs.isolation.ends_as_alone.Goals as goal

pub returns : goal.returns
returns c = ends_as_alone
