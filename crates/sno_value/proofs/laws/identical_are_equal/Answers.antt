use Rattle.sno_value.proofs.Lawful.{identical_are_equal}
use Rattle.sno_value.proofs.laws.identical_are_equal.Goals as goal

pub returns : goal.returns
returns c = identical_are_equal
