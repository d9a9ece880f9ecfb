use Rattle.std.proofs.Common.{List, length, sym, subst}
use Rattle.job_end.specs.declared.job_end.JobEnd.{JobEnd}
use Rattle.scheduler.specs.{Marks.{rounds, turns_left, has_free_slot}, Turning.{UntilIs}}
use Rattle.mon_monitor.{specs.Abstraction.{system_of}, proofs.Playing.{on_ok}}
use Rattle.ledger_machine.proofs.{Plain.{plainly}, Happening.{entered}}
use Rattle.ledger_machine.proofs.events.enter.Goals as goal

pub returns : goal.returns
returns g c =
    let w = system_of c.args.monitor.now in
    let made = system_of c.room.new.self in
    let a = g.S.Sink.standing c.args.audit.now in
    let b = g.S.Sink.standing c.room.new.audit in
    let ends = c.deref.result.now in
    let is = subst (λ (they : List JobEnd). UntilIs has_free_slot (rounds (turns_left w.scheduler.slots) (length w.scheduler.slots)) w.scheduler they made.scheduler a b)
    (sym c.deref.ensures.value) c.in_ok-ends.ensures.room in
    on_ok c.put_load.result
    (λ load. entered w made c.args.out.now.items c.put_ends.new.out.items ends a b c.room.ensures.accounts c.in_ok-put_ends.ensures.printed c.args.deck
    (system_of c.put_load.new.monitor) c.put_load.new.out.items _
    (plainly c.marks_end_jobs.ensures has_free_slot (rounds (turns_left w.scheduler.slots) (length w.scheduler.slots)) w.scheduler ends made.scheduler a b is
    c.in_ok-put_ends.ensures.whole) load)
    c.put_load.ensures
