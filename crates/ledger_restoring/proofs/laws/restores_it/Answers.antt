use Rattle.ledger_restoring.proofs.Restored.{restores_it}
use Rattle.ledger_restoring.proofs.laws.restores_it.Goals as goal

pub returns : goal.returns
returns c = restores_it c.named_set_changes.ensures
