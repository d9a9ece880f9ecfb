use Rattle.mon_access.proofs.Denials.{deciders_lack}
use Rattle.mon_access.proofs.laws.deciders_lack_the_part.Goals as goal

pub returns : goal.returns
returns c = deciders_lack
