use Rattle.ledger_laws.proofs.Coursing.{honest}
use Rattle.ledger_laws.proofs.course_laws.honest.Goals as goal

pub returns : goal.returns
returns g c = honest
