use Rattle.preflight.proofs.Limited.{limits_are_told}
use Rattle.preflight.proofs.laws.limits_are_told.Goals as goal

pub returns : goal.returns
returns c = limits_are_told
