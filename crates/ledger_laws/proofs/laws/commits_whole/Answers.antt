use Rattle.ledger_laws.proofs.Committing.{commits_whole}
use Rattle.ledger_laws.proofs.laws.commits_whole.Goals as goal

pub returns : goal.returns
returns c = commits_whole
