use Rattle.std.proofs.Common.{sym, ◌∙◌}
use Rattle.mon_monitor.proofs.{Common.{system_of}, Playing.{unheard, listed_so}}
use Rattle.mon_monitor.proofs.monitor.Monitor.list_unaudited.Goals as goal

pub returns-in-Ok-Some-clause-happens : goal.returns-in-Ok-Some-clause-happens
returns-in-Ok-Some-clause-happens g c = λ done.
    unheard c.args.account.now c.args.name.now (system_of c.args.self.now) c.args.out.now c.put_listed.new.out (g.S.Sink.standing c.args.audit.now)
    (c.listens.ensures.silent (sym c.listens.ensures.is ∙ c.if-listens.false))
    (listed_so c.in-Ok-Some.field-0 c.in-Ok-Some.field-0-0 c.in-Ok-Some.field-0-is c.in-Ok-Some.ensures.printed)
