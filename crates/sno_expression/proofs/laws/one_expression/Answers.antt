use Rattle.sno_expression.proofs.Sound.{one_expression}
use Rattle.sno_expression.proofs.laws.one_expression.Goals as goal

pub returns : goal.returns
returns c = one_expression
