use Rattle.std.proofs.Common.{ℕ, subst}
use Rattle.mon_monitor.specs.Abstraction.{system_of}
use Rattle.deck_driver.specs.inner.Lines.{StopBreaks}
use Rattle.deck_driver.proofs.Commanding.{checked_when, stop_tells_none, stopped_when, closed, close_breaks, stop_breaks_when, on_err}
use Rattle.deck_driver.{specs.Printouts.{ReadsBack}, proofs.Back.{reads_again}}
use Rattle.deck_driver.proofs.serving.close.Goals as goal

pub returns-then-check-clause-stops : goal.returns-then-check-clause-stops
returns-then-check-clause-stops g c = λ jobs.
    checked_when c.args.check c.if-check.true jobs (system_of c.args.monitor) c.args.out.now c.put.new.self c.into_sets.result.value _ c.into_sets.ensures c.in_ok-put.ensures.appended

pub returns-in_err-put-clause-broken : goal.returns-in_err-put-clause-broken
returns-in_err-put-clause-broken g c =
    let a = g.S.Sink.standing c.args.audit.now in
    let none : (jobs : ℕ) → StopBreaks c.args.check jobs (system_of c.args.monitor) a a = λ jobs. stop_tells_none c.args.check jobs (system_of c.args.monitor) a in
    on_err _ none

pub returns-clause-stops : goal.returns-clause-stops
returns-clause-stops g c = λ jobs.
    stopped_when c.args.check c.if-check.false jobs (system_of c.args.monitor) c.in_ok-sets.sets.value c.args.out.now c.close.new.out _ _
    (closed jobs (system_of c.args.monitor) c.in_ok-sets.sets.value c.args.out.now c.close.new.out _ _ c.in_ok-sets.ensures.closes)

pub returns-in_err-sets-clause-broken : goal.returns-in_err-sets-clause-broken
returns-in_err-sets-clause-broken g c =
    let a = g.S.Sink.standing c.args.audit.now in
    let b = g.S.Sink.standing c.close.new.audit in
    let w = system_of c.args.monitor in
    let broke : (jobs : ℕ) → StopBreaks c.args.check jobs w a b = λ jobs. stop_breaks_when c.args.check c.if-check.false jobs w a b (close_breaks jobs w a b c.in_err-sets.ensures.broken) in
    on_err _ broke

pub returns-clause-reads_back : goal.returns-clause-reads_back
returns-clause-reads_back g c = λ no. subst ReadsBack c.deref.ensures (reads_again _ c.reads_back.ensures.bytes_read_back c.reads_back.ensures.printable)
