use Rattle.std.proofs.Common.{List, length, sym, subst}
use Rattle.job_end.specs.declared.job_end.JobEnd.{JobEnd}
use Rattle.scheduler.specs.{Marks.{rounds, turns_left, is_done}, Turning.{UntilIs}}
use Rattle.mon_monitor.specs.Abstraction.{system_of}
use Rattle.ledger_machine.proofs.{Plain.{plainly}, Happening.{drained}, Going.{on_both}}
use Rattle.ledger_machine.proofs.events.drain.Goals as goal

pub returns : goal.returns
returns g c =
    let w = system_of c.args.monitor.now in
    let left = system_of c.drain.new.self in
    let a = g.S.Sink.standing c.args.audit.now in
    let b = g.S.Sink.standing c.drain.new.audit in
    let ends = c.deref.result.now in
    let is = subst (λ (they : List JobEnd). UntilIs is_done (rounds (turns_left w.scheduler.slots) (length w.scheduler.slots)) w.scheduler they left.scheduler a b)
    (sym c.deref.ensures.value) c.in_ok-ends.ensures.drain in
    on_both c.put_ends.result
    (λ put whole. drained w left c.args.out.now.items c.put_ends.new.out.items ends a b c.drain.ensures.accounts put
    (plainly c.marks_end_jobs.ensures is_done (rounds (turns_left w.scheduler.slots) (length w.scheduler.slots)) w.scheduler ends left.scheduler a b is whole))
    c.put_ends.ensures.printed c.put_ends.ensures.whole
