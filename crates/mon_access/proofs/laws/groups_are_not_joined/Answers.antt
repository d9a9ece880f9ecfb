use Rattle.mon_access.proofs.Denials.{groups_are_not_joined}
use Rattle.mon_access.proofs.laws.groups_are_not_joined.Goals as goal

pub returns : goal.returns
returns c = groups_are_not_joined
