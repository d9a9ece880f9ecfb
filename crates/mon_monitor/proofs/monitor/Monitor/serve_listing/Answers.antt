use Rattle.std.proofs.Common.{sym, subst}
use Rattle.mon_monitor.proofs.{Common.{Monitor, system_of, Serve, HappensUnmarked}, Playing.{served_behind}}
use Rattle.deck_lines.specs.declared.command.Command.TheVariants.{List as Listing}
use Rattle.mon_monitor.proofs.monitor.Monitor.serve_listing.Goals as goal

pub returns-then-done-clause-happens : goal.returns-then-done-clause-happens
returns-then-done-clause-happens g c =
    let a = g.S.Sink.standing c.args.audit.now in
    subst (λ (m : Monitor). HappensUnmarked (Serve (Listing c.args.account c.args.name)) (system_of c.args.self.now) c.args.out.now (system_of m) c.list_unaudited-done.new.out a a) (sym c.give_way_to.ensures)
    (c.list_unaudited-done.ensures.happens c.if-done.true)

pub returns-clause-happens : goal.returns-clause-happens
returns-clause-happens g c =
    served_behind c.serve_command.result (Listing c.args.account c.args.name) (system_of c.args.self.now) (system_of c.serve_command.new.self) c.args.out.now c.list_unaudited-done.new.out
    c.serve_command.new.out _ _ (c.list_unaudited-done.ensures.left c.if-done.false) c.serve_command.ensures.happens
