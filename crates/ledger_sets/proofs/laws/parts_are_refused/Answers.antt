use Rattle.ledger_sets.proofs.Written.{parts_are_refused}
use Rattle.ledger_sets.proofs.laws.parts_are_refused.Goals as goal

pub returns : goal.returns
returns c = parts_are_refused c.refuses_parts.ensures
