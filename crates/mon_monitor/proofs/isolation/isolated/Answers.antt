use Rattle.mon_monitor.proofs.Agreeing.{isolated}
use Rattle.mon_monitor.proofs.isolation.isolated.Goals as goal

pub returns : goal.returns
returns c = isolated
