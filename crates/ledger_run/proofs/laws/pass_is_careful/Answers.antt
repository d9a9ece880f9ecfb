use Rattle.ledger_run.proofs.Passing.{pass_is_careful}
use Rattle.ledger_run.proofs.laws.pass_is_careful.Goals as goal

pub returns : goal.returns
returns c = pass_is_careful
