use Rattle.sno_pattern.proofs.Within.{matches_within as law}
use Rattle.sno_pattern.proofs.laws.matches_within.Goals as goal

pub returns : goal.returns
returns c = law
