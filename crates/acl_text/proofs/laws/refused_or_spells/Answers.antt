use Rattle.acl_text.proofs.Whole.{refused_or_spells}
use Rattle.acl_text.proofs.laws.refused_or_spells.Goals as goal

pub returns : goal.returns
returns c = refused_or_spells
