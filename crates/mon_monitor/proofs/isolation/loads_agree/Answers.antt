use Rattle.mon_monitor.proofs.Loading.{loads_agree}
use Rattle.mon_monitor.proofs.isolation.loads_agree.Goals as goal

pub returns : goal.returns
returns c = loads_agree
