use Rattle.sno_value.proofs.Lawful.{null_is_neutral}
use Rattle.sno_value.proofs.laws.null_is_neutral.Goals as goal

pub returns : goal.returns
returns c = null_is_neutral
