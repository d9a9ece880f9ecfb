use Rattle.ledger_laws.proofs.Coursing.{taken_as_recorded}
use Rattle.ledger_laws.proofs.course_laws.taken_as_recorded.Goals as goal

pub returns : goal.returns
returns g c = taken_as_recorded
