use Rattle.mon_monitor.proofs.Example.{they_agree}
use Rattle.mon_monitor.proofs.isolation.they_agree.Goals as goal

pub returns : goal.returns
returns c = they_agree
