use Rattle.mon_guard.proofs.Lent.{hidden_sets_leave_no_trace}
use Rattle.mon_guard.proofs.laws.hidden_sets_leave_no_trace.Goals as goal

pub returns : goal.returns
returns c = hidden_sets_leave_no_trace
