use Rattle.audit_laws.proofs.Histories.{histories_are_sound}
use Rattle.audit_laws.proofs.laws.histories_are_sound.Goals as goal

pub returns : goal.returns
returns c = histories_are_sound c.lists_are_spelled.ensures c.reading_spells.ensures c.good_beginnings.ensures c.headline.ensures
