use Rattle.acl_text.proofs.Whole.{long_reading_spells}
use Rattle.acl_text.proofs.laws.long_reading_spells.Goals as goal

pub returns : goal.returns
returns c = long_reading_spells
