use Rattle.sno_declarations.proofs.Cutting.{records_fit}
use Rattle.sno_declarations.proofs.laws.records_fit.Goals as goal

pub returns : goal.returns
returns c = records_fit
