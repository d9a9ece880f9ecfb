use Rattle.sno_pattern.proofs.Table.{any_depth as law}
use Rattle.sno_pattern.proofs.laws.any_depth.Goals as goal

pub returns : goal.returns
returns c = law
