use Rattle.sno_value.proofs.Lawful.{quotients_truncate}
use Rattle.sno_value.proofs.laws.quotients_truncate.Goals as goal

pub returns : goal.returns
returns c = quotients_truncate
