use Rattle.mon_monitor.proofs.Turning.{turns_agree}
use Rattle.mon_monitor.proofs.isolation.turns_agree.Goals as goal

pub returns : goal.returns
returns c = turns_agree
