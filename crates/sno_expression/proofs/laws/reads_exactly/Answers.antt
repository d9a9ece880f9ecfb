use Rattle.sno_expression.proofs.Sound.{reads_exactly}
use Rattle.sno_expression.proofs.laws.reads_exactly.Goals as goal

pub returns : goal.returns
returns c = reads_exactly
