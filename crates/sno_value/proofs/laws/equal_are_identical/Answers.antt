use Rattle.sno_value.proofs.Lawful.{equal_are_identical}
use Rattle.sno_value.proofs.laws.equal_are_identical.Goals as goal

pub returns : goal.returns
returns c = equal_are_identical
