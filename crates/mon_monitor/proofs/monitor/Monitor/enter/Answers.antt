use Rattle.mon_monitor.proofs.{Common.{system_of, Load, event_lines}, Playing.{on_ok, entered_behind, on_err, none_told, entering_breaks, entered_breaks}}
use Rattle.mon_monitor.proofs.monitor.Monitor.enter.Goals as goal

pub returns-clause-happens : goal.returns-clause-happens
returns-clause-happens g c =
    on_ok c.put_ends_and_text.result
    (λ put. entered_behind c.args.deck (system_of c.args.self.now) (system_of c.room.new.self) (system_of c.put_load.new.self) c.args.out.now c.new-text.result.items
    c.put_load.new.out.items c.put_ends_and_text.new.self c.in_ok-ends.ends.items _ _ _ c.room.ensures.accounts c.in_ok-ends.ensures.room c.new-text.ensures.items
    c.in_ok-put_load.ensures.does put)
    c.put_ends_and_text.ensures.printed

pub returns-in_err-ends-clause-broken : goal.returns-in_err-ends-clause-broken
returns-in_err-ends-clause-broken g c = on_err c.from_residual.result (none_told (event_lines (Load c.args.deck)) (system_of c.args.self.now) _ _ c.in_err-ends.ensures.silent)

pub returns-in_err-put_load-clause-broken : goal.returns-in_err-put_load-clause-broken
returns-in_err-put_load-clause-broken g c =
    on_err c.from_residual-in_err-put_load.result
    (entering_breaks c.args.deck (system_of c.args.self.now) (system_of c.room.new.self) c.in_ok-ends.ends.items _ _ _ c.room.ensures.accounts c.in_ok-ends.ensures.room
    c.in_err-put_load.ensures.broken)

pub returns-clause-broken : goal.returns-clause-broken
returns-clause-broken g c =
    on_err c.put_ends_and_text.result
    (entered_breaks c.args.deck (system_of c.args.self.now) (system_of c.room.new.self) (system_of c.put_load.new.self) c.new-text.result.items c.put_load.new.out.items
    c.in_ok-ends.ends.items _ _ _ c.room.ensures.accounts c.in_ok-ends.ensures.room c.in_ok-put_load.ensures.does)
