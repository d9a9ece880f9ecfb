use Rattle.mon_monitor.proofs.Schedules.{drain_settles}
use Rattle.mon_monitor.proofs.isolation.drain_settles.Goals as goal

pub returns : goal.returns
returns c = drain_settles
