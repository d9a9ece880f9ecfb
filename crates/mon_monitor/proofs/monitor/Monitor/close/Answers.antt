use Rattle.mon_monitor.proofs.{Common.{system_of, Drain, event_lines}, Playing.{closed, on_err, none_told, drained_breaks}}
use Rattle.mon_monitor.proofs.monitor.Monitor.close.Goals as goal

pub returns-clause-closes : goal.returns-clause-closes
returns-clause-closes g c =
    closed (system_of c.args.self) (system_of c.drain.new.self) c.args.out.now c.put_ends_and_sets.new.self c.in_ok-ends.ends.items
    c.into_sets-sets.result.value c.in_ok-printed.printed.value _ _ c.drain.ensures.accounts c.in_ok-ends.ensures.drain
    c.into_sets-sets.ensures c.in_ok-printed.ensures.cases c.in_ok-put_ends_and_sets.ensures.printed

pub returns-in_err-ends-clause-broken : goal.returns-in_err-ends-clause-broken
returns-in_err-ends-clause-broken g c = on_err c.from_residual.result (none_told (event_lines Drain) (system_of c.args.self) _ _ c.in_err-ends.ensures.silent)

pub returns-in_err-printed-clause-broken : goal.returns-in_err-printed-clause-broken
returns-in_err-printed-clause-broken g c =
    on_err c.from_residual-in_err-printed.result
    (drained_breaks (system_of c.args.self) (system_of c.drain.new.self) c.in_ok-ends.ends.items _ _ c.drain.ensures.accounts c.in_ok-ends.ensures.drain)

pub returns-in_err-put_ends_and_sets-clause-broken : goal.returns-in_err-put_ends_and_sets-clause-broken
returns-in_err-put_ends_and_sets-clause-broken g c =
    on_err c.from_residual-in_err-put_ends_and_sets.result
    (drained_breaks (system_of c.args.self) (system_of c.drain.new.self) c.in_ok-ends.ends.items _ _ c.drain.ensures.accounts c.in_ok-ends.ensures.drain)
