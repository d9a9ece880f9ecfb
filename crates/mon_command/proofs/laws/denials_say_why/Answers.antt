use Rattle.mon_command.proofs.Shows.{denials_say_why}
use Rattle.mon_command.proofs.laws.denials_say_why.Goals as goal

pub returns : goal.returns
returns c = denials_say_why c.denials_say_why.ensures
