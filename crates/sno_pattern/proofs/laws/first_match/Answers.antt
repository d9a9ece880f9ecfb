use Rattle.sno_pattern.proofs.Firsts.{first_match as law}
use Rattle.sno_pattern.proofs.laws.first_match.Goals as goal

pub returns : goal.returns
returns c = law
