use Rattle.mon_access.proofs.Cases.{grants_by_case}
use Rattle.mon_access.proofs.laws.grants_by_its_case.Goals as goal

pub returns : goal.returns
returns c = grants_by_case
