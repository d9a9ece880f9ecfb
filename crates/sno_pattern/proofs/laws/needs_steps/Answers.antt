use Rattle.sno_pattern.proofs.Counted.{needs_steps as law}
use Rattle.sno_pattern.proofs.laws.needs_steps.Goals as goal

pub returns : goal.returns
returns c = law
