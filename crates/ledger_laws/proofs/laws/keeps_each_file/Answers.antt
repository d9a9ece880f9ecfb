use Rattle.ledger_laws.proofs.Placing.{keeps_each_file}
use Rattle.ledger_laws.proofs.laws.keeps_each_file.Goals as goal

pub returns : goal.returns
returns c = keeps_each_file
