use Rattle.sno_variables.proofs.Looking.{put_is_found}
use Rattle.sno_variables.proofs.laws.put_is_found.Goals as goal

pub returns : goal.returns
returns c = put_is_found
