use Rattle.mon_catalogue.proofs.Changed.{named_set_changes}
use Rattle.mon_catalogue.proofs.laws.named_set_changes.Goals as goal

pub returns : goal.returns
returns c = named_set_changes
