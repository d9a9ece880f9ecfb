use Rattle.mon_monitor.proofs.Requests.{requests_agree}
use Rattle.mon_monitor.proofs.isolation.requests_agree.Goals as goal

pub returns : goal.returns
returns c = requests_agree
