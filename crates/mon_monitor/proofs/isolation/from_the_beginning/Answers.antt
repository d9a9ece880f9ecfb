use Rattle.mon_monitor.proofs.Beginnings.{from_the_beginning}
use Rattle.mon_monitor.proofs.isolation.from_the_beginning.Goals as goal

pub returns : goal.returns
returns c = from_the_beginning
