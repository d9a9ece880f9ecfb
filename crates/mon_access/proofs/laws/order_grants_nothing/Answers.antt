use Rattle.mon_access.proofs.Orders.{order_grants_nothing}
use Rattle.mon_access.proofs.laws.order_grants_nothing.Goals as goal

pub returns : goal.returns
returns c = order_grants_nothing
