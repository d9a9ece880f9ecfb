use Rattle.sno_store.proofs.Restoring.{call_leaves_others}
use Rattle.sno_store.proofs.laws.call_leaves_others.Goals as goal

pub returns : goal.returns
returns c = call_leaves_others
