use Rattle.acl_text.proofs.Whole.{long_reads_back}
use Rattle.acl_text.proofs.laws.long_reads_back.Goals as goal

pub returns : goal.returns
returns c = long_reads_back
