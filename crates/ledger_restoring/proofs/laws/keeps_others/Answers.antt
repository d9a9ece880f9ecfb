use Rattle.ledger_restoring.proofs.Restored.{keeps_others}
use Rattle.ledger_restoring.proofs.laws.keeps_others.Goals as goal

pub returns : goal.returns
returns c = keeps_others c.other_sets_stay.ensures
