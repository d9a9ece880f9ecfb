use Rattle.mon_guard.proofs.Acting.{acts_where_granted}
use Rattle.mon_guard.proofs.laws.acts_where_granted.Goals as goal

pub returns : goal.returns
returns c = acts_where_granted
