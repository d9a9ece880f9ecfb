use Rattle.mon_catalogue.proofs.Whole.{one_catalogue}
use Rattle.mon_catalogue.proofs.laws.one_catalogue.Goals as goal

pub returns : goal.returns
returns c = one_catalogue
