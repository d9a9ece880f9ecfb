use Rattle.preflight.proofs.FirstWrong.{one_verdict}
use Rattle.preflight.proofs.laws.one_verdict.Goals as goal

pub returns : goal.returns
returns c = one_verdict
