use Rattle.mon_monitor.proofs.Commands.{commands_agree}
use Rattle.mon_monitor.proofs.isolation.commands_agree.Goals as goal

pub returns : goal.returns
returns c = commands_agree
