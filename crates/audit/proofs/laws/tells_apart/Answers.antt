use Rattle.audit.proofs.Apart.{tells_apart}
use Rattle.audit.proofs.laws.tells_apart.Goals as goal

pub returns : goal.returns
returns c = tells_apart
