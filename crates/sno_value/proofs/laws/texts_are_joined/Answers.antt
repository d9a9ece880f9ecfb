use Rattle.sno_value.proofs.Lawful.{texts_are_joined}
use Rattle.sno_value.proofs.laws.texts_are_joined.Goals as goal

pub returns : goal.returns
returns c = texts_are_joined
