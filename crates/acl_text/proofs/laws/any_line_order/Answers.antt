use Rattle.acl_text.proofs.Whole.{any_line_order}
use Rattle.acl_text.proofs.laws.any_line_order.Goals as goal

pub returns : goal.returns
returns c = any_line_order
