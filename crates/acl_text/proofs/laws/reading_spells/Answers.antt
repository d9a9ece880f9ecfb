use Rattle.acl_text.proofs.Whole.{reading_spells}
use Rattle.acl_text.proofs.laws.reading_spells.Goals as goal

pub returns : goal.returns
returns c = reading_spells
