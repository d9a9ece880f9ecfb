use Rattle.ledger_laws.proofs.Recording.{stays_until_recorded}
use Rattle.ledger_laws.proofs.laws.stays_until_recorded.Goals as goal

pub returns : goal.returns
returns c = stays_until_recorded
