use Rattle.mon_monitor.proofs.Histories.{played_unmarked}
use Rattle.mon_monitor.proofs.laws.unmarked.Goals as goal

pub returns : goal.returns
returns c = played_unmarked c.marks_end_jobs.ensures
