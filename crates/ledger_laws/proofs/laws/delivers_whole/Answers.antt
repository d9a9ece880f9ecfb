use Rattle.ledger_laws.proofs.Delivering.{delivers_whole}
use Rattle.ledger_laws.proofs.laws.delivers_whole.Goals as goal

pub returns : goal.returns
returns c = delivers_whole
