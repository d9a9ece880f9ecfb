use Rattle.round_parts.proofs.Whole.{splits_are_lawful}
use Rattle.round_parts.proofs.laws.splits_are_lawful.Goals as goal

pub returns : goal.returns
returns c = splits_are_lawful c.texts_run_in_parts.ensures
