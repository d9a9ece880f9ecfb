use Rattle.mon_catalogue.proofs.Steps.{one_more_line}
use Rattle.mon_catalogue.proofs.laws.one_more_line.Goals as goal

pub returns : goal.returns
returns c = one_more_line
