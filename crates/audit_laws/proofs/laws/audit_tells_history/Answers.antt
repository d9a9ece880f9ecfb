use Rattle.audit_laws.proofs.Telling.{audit_tells_history}
use Rattle.audit_laws.proofs.laws.audit_tells_history.Goals as goal

pub returns : goal.returns
returns c = audit_tells_history c.audits_are_read.ensures c.histories_are_sound.ensures c.audited.ensures
