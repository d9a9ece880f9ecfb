use Rattle.mon_access.proofs.Cases.{one_case}
use Rattle.mon_access.proofs.laws.exactly_one_case_applies.Goals as goal

pub returns : goal.returns
returns c = one_case
