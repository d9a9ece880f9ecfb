use Rattle.mon_monitor.proofs.Schedules.{any_schedule}
use Rattle.mon_monitor.proofs.isolation.any_schedule.Goals as goal

pub returns : goal.returns
returns c = any_schedule
