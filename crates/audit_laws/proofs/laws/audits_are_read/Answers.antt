use Rattle.audit_laws.proofs.Telling.{audits_are_read}
use Rattle.audit_laws.proofs.laws.audits_are_read.Goals as goal

pub returns : goal.returns
returns c = audits_are_read c.lists_are_spelled.ensures c.reads_back.ensures
