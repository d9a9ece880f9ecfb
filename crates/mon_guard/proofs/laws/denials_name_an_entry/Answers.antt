use Rattle.mon_guard.proofs.Denials.{denials_name_an_entry}
use Rattle.mon_guard.proofs.laws.denials_name_an_entry.Goals as goal

pub returns : goal.returns
returns c = denials_name_an_entry c.deciders_lack_the_part.ensures
