use Rattle.acl_text.proofs.Whole.{one_long_form}
use Rattle.acl_text.proofs.laws.one_long_form.Goals as goal

pub returns : goal.returns
returns c = one_long_form
