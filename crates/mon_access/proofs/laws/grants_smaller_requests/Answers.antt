use Rattle.mon_access.proofs.Smaller.{grants_smaller_requests}
use Rattle.mon_access.proofs.laws.grants_smaller_requests.Goals as goal

pub returns : goal.returns
returns c = grants_smaller_requests
