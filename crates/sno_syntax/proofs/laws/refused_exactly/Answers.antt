use Rattle.sno_syntax.proofs.Exactly.{refused_exactly as law}
use Rattle.sno_syntax.proofs.laws.refused_exactly.Goals as goal

pub returns : goal.returns
returns c = law
