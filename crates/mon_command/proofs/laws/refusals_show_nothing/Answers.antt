use Rattle.std.proofs.Common.{ap}
use Rattle.mon_command.specs.Commanded.{printed}
use Rattle.mon_command.proofs.laws.refusals_show_nothing.Goals as goal

pub returns : goal.returns
returns c = λ accounts sets command reply h. ap (printed command) h
