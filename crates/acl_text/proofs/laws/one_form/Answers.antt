use Rattle.acl_text.proofs.Whole.{one_form}
use Rattle.acl_text.proofs.laws.one_form.Goals as goal

pub returns : goal.returns
returns c = one_form
