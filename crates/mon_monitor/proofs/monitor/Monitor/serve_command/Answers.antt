use Rattle.std.proofs.Common.{refl}
use Rattle.mon_monitor.proofs.{Common.{system_of, Serve, event_lines}, Playing.{served, said_so, on_err, none_told}}
use Rattle.mon_monitor.proofs.monitor.Monitor.serve_command.Goals as goal

pub returns-clause-happens : goal.returns-clause-happens
returns-clause-happens g c =
    served c.args.command (system_of c.args.self.now) (system_of c.put_served.new.self) c.args.out.now c.put_served.new.out _ _ _ _
    c.in_ok-said.ensures.system refl c.in_ok-said.ensures.printed
    (said_so c.args.command (system_of c.args.self.now) (system_of c.put_served.new.self) c.in_ok-said.said c.put_served.new.self.accounts c.catalogue.result.now c.in_ok-said.ensures.said c.in_ok-said.ensures.system refl
    c.catalogue.ensures)
    c.print_command.ensures

pub returns-in_err-said-clause-broken : goal.returns-in_err-said-clause-broken
returns-in_err-said-clause-broken g c = on_err c.from_residual.result (none_told (event_lines (Serve c.args.command)) (system_of c.args.self.now) _ _ refl)
