use Rattle.mon_access.proofs.Rightness.{where_granted}
use Rattle.mon_access.proofs.granting_laws.named_where_granted.Goals as goal

pub returns : goal.returns
returns c = where_granted
