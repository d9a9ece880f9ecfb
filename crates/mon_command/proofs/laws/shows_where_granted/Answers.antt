use Rattle.mon_command.proofs.Shows.{shows_where_granted}
use Rattle.mon_command.proofs.laws.shows_where_granted.Goals as goal

pub returns : goal.returns
returns c = shows_where_granted c.lends_where_granted.ensures
