use Rattle.mon_access.proofs.Denials.{never_falls_through}
use Rattle.mon_access.proofs.laws.never_falls_through.Goals as goal

pub returns : goal.returns
returns c = never_falls_through
