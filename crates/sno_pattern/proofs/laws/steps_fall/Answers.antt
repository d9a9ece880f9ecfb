use Rattle.sno_pattern.proofs.Table.{outcome_falls as law}
use Rattle.sno_pattern.proofs.laws.steps_fall.Goals as goal

pub returns : goal.returns
returns c = law
