use Rattle.mon_unit.proofs.Exchanges.{denials_say_why}
use Rattle.mon_unit.proofs.laws.denials_say_why.Goals as goal

pub returns : goal.returns
returns c = denials_say_why
