use Rattle.audit_laws.proofs.Sets.{lists_are_spelled}
use Rattle.audit_laws.proofs.laws.lists_are_spelled.Goals as goal

pub returns : goal.returns
returns c = lists_are_spelled c.reading_spells.ensures c.long_reading_spells.ensures
