use Rattle.mon_catalogue.proofs.Whole.{reading_spells}
use Rattle.mon_catalogue.proofs.laws.reading_spells.Goals as goal

pub returns : goal.returns
returns c = reading_spells
