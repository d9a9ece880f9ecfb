use Rattle.round_parts.proofs.Spoken.{names_are_spoken}
use Rattle.round_parts.proofs.laws.names_are_spoken.Goals as goal

pub returns : goal.returns
returns c = names_are_spoken
