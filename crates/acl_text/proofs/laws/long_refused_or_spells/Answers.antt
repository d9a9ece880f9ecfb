use Rattle.acl_text.proofs.Whole.{long_refused_or_spells}
use Rattle.acl_text.proofs.laws.long_refused_or_spells.Goals as goal

pub returns : goal.returns
returns c = long_refused_or_spells
