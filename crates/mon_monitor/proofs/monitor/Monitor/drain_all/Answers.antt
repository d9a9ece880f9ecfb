use Rattle.mon_monitor.proofs.{Common.{system_of, Drain, event_lines}, Playing.{on_ok, drained, on_err, none_told, drained_breaks}}
use Rattle.mon_monitor.proofs.monitor.Monitor.drain_all.Goals as goal

pub returns-clause-happens : goal.returns-clause-happens
returns-clause-happens g c =
    on_ok c.put_ends.result
    (λ put. drained (system_of c.args.self.now) (system_of c.drain.new.self) c.args.out.now c.put_ends.new.self c.in_ok-ends.ends.items _ _
    c.drain.ensures.accounts c.in_ok-ends.ensures.drain put)
    c.put_ends.ensures.printed

pub returns-in_err-ends-clause-broken : goal.returns-in_err-ends-clause-broken
returns-in_err-ends-clause-broken g c = on_err c.from_residual.result (none_told (event_lines Drain) (system_of c.args.self.now) _ _ c.in_err-ends.ensures.silent)

pub returns-clause-broken : goal.returns-clause-broken
returns-clause-broken g c =
    on_err c.put_ends.result
    (drained_breaks (system_of c.args.self.now) (system_of c.drain.new.self) c.in_ok-ends.ends.items _ _ c.drain.ensures.accounts c.in_ok-ends.ensures.drain)
