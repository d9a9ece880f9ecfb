use Rattle.ledger_laws.proofs.Careful.{claims_carefully}
use Rattle.ledger_laws.proofs.laws.claims_carefully.Goals as goal

pub returns : goal.returns
returns c = claims_carefully
