use Rattle.checkpoint_laws.proofs.Opened.{changes_are_alike}
use Rattle.checkpoint_laws.proofs.laws.changes_are_alike.Goals as goal

pub returns : goal.returns
returns c = changes_are_alike
