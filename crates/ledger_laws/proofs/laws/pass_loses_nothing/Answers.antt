use Rattle.ledger_laws.proofs.Passing.{pass_loses_nothing}
use Rattle.ledger_laws.proofs.laws.pass_loses_nothing.Goals as goal

pub returns : goal.returns
returns c = pass_loses_nothing
