use Rattle.mon_guard.proofs.Lent.{denials_say_why}
use Rattle.mon_guard.proofs.laws.denials_say_why.Goals as goal

pub returns : goal.returns
returns c = denials_say_why
