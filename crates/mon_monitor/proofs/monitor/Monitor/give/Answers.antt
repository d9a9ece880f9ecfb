use Rattle.std.proofs.Common.{Option, [], sym, subst, append-nil, replicate}
use Rattle.mon_monitor.proofs.Common.{JobEnd, MarkedIs, end_in, system_of, Give, event_lines}
use Rattle.mon_monitor.proofs.Playing.{on_ok, given, given_end, on_err, none_told, given_breaks}
use Rattle.mon_monitor.proofs.monitor.Monitor.give.Goals as goal

pub returns-in-Some-clause-happens : goal.returns-in-Some-clause-happens
returns-in-Some-clause-happens g c =
    let w = system_of c.args.self.now in
    let left = system_of c.turns_of.new.self in
    let a = g.S.Sink.standing c.args.audit.now in
    let b = g.S.Sink.standing c.turns_of.new.audit in
    on_ok c.put_piece.result
    (λ put. given_end c.args.slot c.args.count w left c.args.out.now c.put_piece.new.self c.in-Some.end a b c.turns_of.ensures.accounts
    (subst (λ (o : Option JobEnd). MarkedIs (replicate c.args.count c.args.slot) w.scheduler (end_in o) left.scheduler a b) c.in-Some.is c.in_ok-end.ensures.turns) put)
    c.put_piece.ensures.printed

pub returns-in_err-end-clause-broken : goal.returns-in_err-end-clause-broken
returns-in_err-end-clause-broken g c =
    on_err c.from_residual.result (none_told (event_lines (Give c.args.slot c.args.count)) (system_of c.args.self.now) _ _ c.in_err-end.ensures.silent)

pub returns-in-Some-clause-broken : goal.returns-in-Some-clause-broken
returns-in-Some-clause-broken g c =
    on_err c.put_piece.result
    (given_breaks c.args.slot c.args.count (system_of c.args.self.now) (system_of c.turns_of.new.self) _ _ _ c.turns_of.ensures.accounts c.in_ok-end.ensures.turns)

pub returns-in-None-clause-happens : goal.returns-in-None-clause-happens
returns-in-None-clause-happens g c =
    let w = system_of c.args.self.now in
    let left = system_of c.turns_of.new.self in
    let a = g.S.Sink.standing c.args.audit.now in
    let b = g.S.Sink.standing c.turns_of.new.audit in
    given c.args.slot c.args.count w left c.args.out.now c.args.out.now [] a b c.turns_of.ensures.accounts
    (subst (λ (o : Option JobEnd). MarkedIs (replicate c.args.count c.args.slot) w.scheduler (end_in o) left.scheduler a b) c.in-None.is c.in_ok-end.ensures.turns)
    (sym (append-nil _))
