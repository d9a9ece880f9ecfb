use Rattle.rounds.proofs.InParts.{rounds_run_in_parts}
use Rattle.rounds.proofs.laws.rounds_run_in_parts.Goals as goal

pub returns : goal.returns
returns c = rounds_run_in_parts c.texts_run_in_parts.ensures
