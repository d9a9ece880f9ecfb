use Rattle.sno_value.proofs.Lawful.{joins_associate}
use Rattle.sno_value.proofs.laws.joins_associate.Goals as goal

pub returns : goal.returns
returns c = joins_associate
