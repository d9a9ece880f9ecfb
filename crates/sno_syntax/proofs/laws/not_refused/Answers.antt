use Rattle.sno_syntax.proofs.Wholes.{not_refused}
use Rattle.sno_syntax.proofs.laws.not_refused.Goals as goal

pub returns : goal.returns
returns c = not_refused
