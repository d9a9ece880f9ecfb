use Rattle.mon_catalogue.proofs.Back.{writing_is_stable}
use Rattle.mon_catalogue.proofs.laws.writing_is_stable.Goals as goal

pub returns : goal.returns
returns c = writing_is_stable
