use Rattle.acl_text.proofs.Whole.{reads_back}
use Rattle.acl_text.proofs.laws.reads_back.Goals as goal

pub returns : goal.returns
returns c = reads_back
