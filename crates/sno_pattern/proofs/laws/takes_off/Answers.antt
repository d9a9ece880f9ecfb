use Rattle.sno_pattern.proofs.Table.{takes_off as law}
use Rattle.sno_pattern.proofs.laws.takes_off.Goals as goal

pub returns : goal.returns
returns c = law
