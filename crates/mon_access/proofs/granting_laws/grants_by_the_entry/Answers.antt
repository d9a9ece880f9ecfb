use Rattle.mon_access.proofs.Rightness.{grants_by_entry}
use Rattle.mon_access.proofs.granting_laws.grants_by_the_entry.Goals as goal

pub returns : goal.returns
returns c = grants_by_entry c.grants_by_its_case.ensures
