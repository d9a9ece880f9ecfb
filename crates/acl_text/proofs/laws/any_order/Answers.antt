use Rattle.acl_text.proofs.Whole.{any_order}
use Rattle.acl_text.proofs.laws.any_order.Goals as goal

pub returns : goal.returns
returns c = any_order
