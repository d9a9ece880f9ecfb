use Rattle.sno_syntax.proofs.Readable.{spells_one as law}
use Rattle.sno_syntax.proofs.laws.spells_one.Goals as goal

pub returns : goal.returns
returns c = law
