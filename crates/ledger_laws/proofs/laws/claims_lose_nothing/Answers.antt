use Rattle.ledger_laws.proofs.Claiming.{claims_lose_nothing}
use Rattle.ledger_laws.proofs.laws.claims_lose_nothing.Goals as goal

pub returns : goal.returns
returns c = claims_lose_nothing
