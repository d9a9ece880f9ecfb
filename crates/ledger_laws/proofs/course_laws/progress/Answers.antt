use Rattle.ledger_laws.proofs.Coursing.{progress}
use Rattle.ledger_laws.proofs.course_laws.progress.Goals as goal

pub returns : goal.returns
returns g c = progress
