use Rattle.mon_command.proofs.Shows.{hidden_sets_have_no_effect}
use Rattle.mon_command.proofs.laws.hidden_sets_have_no_effect.Goals as goal

pub returns : goal.returns
returns c = hidden_sets_have_no_effect c.hidden_sets_leave_no_trace.ensures
