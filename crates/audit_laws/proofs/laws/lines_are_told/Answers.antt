use Rattle.audit_laws.proofs.Telling.{lines_are_told}
use Rattle.audit_laws.proofs.laws.lines_are_told.Goals as goal

pub returns : goal.returns
returns c = lines_are_told c.lists_are_spelled.ensures c.reads_back.ensures
