use Rattle.acl_text.proofs.Whole.{one_order}
use Rattle.acl_text.proofs.laws.one_order.Goals as goal

pub returns : goal.returns
returns c = one_order
