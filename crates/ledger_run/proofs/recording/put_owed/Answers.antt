use Rattle.std.proofs.Common.{List, map, subst}
use Rattle.ledger_disk.specs.Plans.{Did, Began}
use Rattle.ledger_laws.specs.Answers.{deliver_calls}
use Rattle.ledger_run.{specs.declared.answers.Owed.{Owed}, specs.Owing.{owed_as}, specs.Runs.{seen_ledger}, proofs.Giving.{give_safe_from, give_carries_on}}
use Rattle.ledger_run.proofs.recording.put_owed.Goals as goal

pub returns-in_err-put_answers-clause-any_moment : goal.returns-in_err-put_answers-clause-any_moment
returns-in_err-put_answers-clause-any_moment g c =
    give_safe_from g.D.Disk.calls g.M.Machine.step (seen_ledger c.args.ledger.now) (g.M.Machine.behind c.args.machine.now) c.args.disk.now c.put_answers.new.disk
    (subst (λ (l : List Owed). Began g.D.Disk.calls (deliver_calls (map owed_as l)) c.args.disk.now c.put_answers.new.disk) c.deref.ensures.value c.in_err-put_answers.ensures.began)

pub returns-clause-any_moment : goal.returns-clause-any_moment
returns-clause-any_moment g c =
    give_safe_from g.D.Disk.calls g.M.Machine.step (seen_ledger c.args.ledger.now) (g.M.Machine.behind c.args.machine.now) c.args.disk.now c.put_answers.new.disk
    (subst (λ (l : List Owed). Began g.D.Disk.calls (deliver_calls (map owed_as l)) c.args.disk.now c.put_answers.new.disk) c.deref.ensures.value c.in_ok-put_answers.ensures.began)

pub returns-clause-done : goal.returns-clause-done
returns-clause-done g c =
    give_carries_on g.D.Disk.calls g.M.Machine.step (seen_ledger c.args.ledger.now) (g.M.Machine.behind c.args.machine.now) c.args.disk.now c.put_answers.new.disk
    (subst (λ (l : List Owed). Did g.D.Disk.calls (deliver_calls (map owed_as l)) c.args.disk.now c.put_answers.new.disk) c.deref.ensures.value c.in_ok-put_answers.ensures.did)
