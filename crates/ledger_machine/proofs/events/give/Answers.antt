use Rattle.std.proofs.Common.{[], ◌∷◌, ◌++◌, ℕ, List, Option, sym, ap, ◌∙◌, subst, append-nil, replicate}
use Rattle.job_end.specs.{declared.job_end.JobEnd.{JobEnd}, Printouts.{printout}}
use Rattle.scheduler.specs.{Marks.{never}, Turning.{MarkedIs, end_in}}
use Rattle.mon_monitor.specs.Abstraction.{system_of}
use Rattle.ledger_machine.proofs.{Plain.{plainly}, Happening.{given}, Going.{on_both}}
use Rattle.ledger_machine.proofs.events.give.Goals as goal

pub returns-in-Some : goal.returns-in-Some
returns-in-Some g c =
    let w = system_of c.args.monitor.now in
    let left = system_of c.turns_of.new.self in
    let a = g.S.Sink.standing c.args.audit.now in
    let b = g.S.Sink.standing c.turns_of.new.audit in
    let slot = c.args.turn.slot in
    let count = c.args.turn.count in
    let end = c.in-Some.end in
    let is = subst (λ (o : Option JobEnd). MarkedIs (replicate count slot) w.scheduler (end_in o) left.scheduler a b) c.in-Some.is c.in_ok-end.ensures.turns in
    on_both c.put_end.result
    (λ put whole. given w left c.args.out.now.items c.put_end.new.out.items (end ∷ []) a b c.turns_of.ensures.accounts
    (put ∙ ap (λ (t : List ℕ). c.args.out.now.items ++ t) (sym (append-nil (printout end)))) slot count
    (plainly c.marks_end_jobs.ensures never (replicate count slot) w.scheduler (end ∷ []) left.scheduler a b is (whole, tt)))
    c.put_end.ensures.printed c.put_end.ensures.whole

pub returns-in-None : goal.returns-in-None
returns-in-None g c =
    let w = system_of c.args.monitor.now in
    let left = system_of c.turns_of.new.self in
    let a = g.S.Sink.standing c.args.audit.now in
    let b = g.S.Sink.standing c.turns_of.new.audit in
    let slot = c.args.turn.slot in
    let count = c.args.turn.count in
    let is = subst (λ (o : Option JobEnd). MarkedIs (replicate count slot) w.scheduler (end_in o) left.scheduler a b) c.in-None.is c.in_ok-end.ensures.turns in
    given w left c.args.out.now.items c.args.out.now.items [] a b c.turns_of.ensures.accounts (sym (append-nil c.args.out.now.items)) slot count
    (plainly c.marks_end_jobs.ensures never (replicate count slot) w.scheduler [] left.scheduler a b is tt)
