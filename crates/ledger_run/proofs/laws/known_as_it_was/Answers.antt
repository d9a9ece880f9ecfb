use Rattle.ledger_run.proofs.Knowing.{known_as_it_was}
use Rattle.ledger_run.proofs.laws.known_as_it_was.Goals as goal

pub returns : goal.returns
returns c = known_as_it_was c.course_reads_back.ensures
