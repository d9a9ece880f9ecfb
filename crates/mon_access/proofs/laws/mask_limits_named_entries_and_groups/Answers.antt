use Rattle.mon_access.proofs.Denials.{mask_limits}
use Rattle.mon_access.proofs.laws.mask_limits_named_entries_and_groups.Goals as goal

pub returns : goal.returns
returns c = mask_limits
