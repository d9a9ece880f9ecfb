use Rattle.std.proofs.Common.{sym}
use Rattle.mon_unit.specs.Lent.{reach_of}
use Rattle.audit.proofs.Keeping.{known}
use Rattle.audit.proofs.audit_cache.AuditCache.known.Goals as goal

pub returns : goal.returns
returns c = λ n fits statement answer.
    known n c.args.service.now.account.now (reach_of c.args.service.now) c.args.self.now c.args.act.now c.in_ok-line.line.now c.in_ok-tie.tie.now fits c.in_ok-line.ensures
    (sym c.in_ok-tie.ensures) statement answer
