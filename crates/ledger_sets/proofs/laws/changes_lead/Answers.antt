use Rattle.ledger_sets.proofs.Between.{changes_lead}
use Rattle.ledger_sets.proofs.laws.changes_lead.Goals as goal

pub returns : goal.returns
returns c = changes_lead
