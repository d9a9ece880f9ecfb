use Rattle.sno_declarations.proofs.Cutting.{records_follow}
use Rattle.sno_declarations.proofs.laws.records_follow.Goals as goal

pub returns : goal.returns
returns c = records_follow
