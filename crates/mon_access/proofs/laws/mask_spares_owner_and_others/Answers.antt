use Rattle.mon_access.proofs.Changes.{mask_spares}
use Rattle.mon_access.proofs.laws.mask_spares_owner_and_others.Goals as goal

pub returns : goal.returns
returns c = mask_spares
