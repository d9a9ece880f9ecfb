use Rattle.sno_statement.proofs.Leftmost.{fault_is_leftmost as law}
use Rattle.sno_statement.proofs.laws.fault_is_leftmost.Goals as goal

pub returns : goal.returns
returns c = law
