use Rattle.preflight.proofs.Composed.{never_refused}
use Rattle.preflight.proofs.laws.never_refused.Goals as goal

pub returns : goal.returns
returns c = never_refused
