use Rattle.mon_monitor.{specs.Abstraction.{system_of}, specs.Events.{Serve}, proofs.Playing.{on_ok}}
use Rattle.ledger_machine.proofs.Going.{served}
use Rattle.ledger_machine.proofs.events.serve.Goals as goal

pub returns : goal.returns
returns g c =
    on_ok c.put_printed.result
    (λ put. served (Serve c.args.command) (system_of c.args.monitor.now) (system_of c.serve_command.new.self) c.args.out.now.items c.in_ok-printed.printed c.serve_command.new.out
    c.put_printed.new.out.items _ _ c.in_ok-printed.ensures c.in_ok-serve_command.ensures.happens put)
    c.put_printed.ensures
