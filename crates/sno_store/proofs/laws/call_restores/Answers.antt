use Rattle.sno_store.proofs.Restoring.{call_restores}
use Rattle.sno_store.proofs.laws.call_restores.Goals as goal

pub returns : goal.returns
returns c = call_restores
