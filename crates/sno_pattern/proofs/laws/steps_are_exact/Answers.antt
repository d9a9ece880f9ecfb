use Rattle.sno_pattern.proofs.Counted.{steps_are_exact as law}
use Rattle.sno_pattern.proofs.laws.steps_are_exact.Goals as goal

pub returns : goal.returns
returns c = law
