use Rattle.acl_text.proofs.Whole.{one_list}
use Rattle.acl_text.proofs.laws.one_list.Goals as goal

pub returns : goal.returns
returns c = one_list
