use Rattle.mon_monitor.proofs.Histories.{printed_in_order}
use Rattle.mon_monitor.proofs.laws.printed_in_order.Goals as goal

pub returns : goal.returns
returns c = printed_in_order
