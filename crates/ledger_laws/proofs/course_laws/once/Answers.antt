use Rattle.ledger_laws.proofs.Coursing.{once}
use Rattle.ledger_laws.proofs.course_laws.once.Goals as goal

pub returns : goal.returns
returns g c = once
