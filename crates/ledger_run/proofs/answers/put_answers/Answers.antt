use Rattle.std.proofs.Common.{[], ◌∷◌, ◌+◌, drop, map}
use Rattle.ledger_disk.specs.{Disks.{Write, SyncFile, Rename}, declared.name.Name.TheVariants.{Answer, Unfinished}}
use Rattle.ledger_laws.specs.Answers.{deliver_calls}
use Rattle.ledger_run.{specs.Owing.{owed_as}, proofs.Planned.{next_answer, step_as, stop_as}}
use Rattle.ledger_run.proofs.answers.put_answers.Goals as goal

pub returns-in_err-put_answer-clause-began : goal.returns-in_err-put_answer-clause-began
returns-in_err-put_answer-clause-began g c =
    stop_as g.D.Disk.calls (deliver_calls (map owed_as c.args.owed.now)) (deliver_calls (map owed_as (drop c.loop-answer.answer-index c.args.owed.now)))
    (Write Unfinished c.deref.result.now ∷ SyncFile Unfinished ∷ Rename Unfinished (Answer c.answer-item.result.number) ∷ []) (deliver_calls (map owed_as (drop (c.loop-answer.answer-index + 1) c.args.owed.now)))
    c.args.disk.now c.loop-answer.disk c.put_answer.new.disk
    (next_answer c.args.owed.now c.loop-answer.answer-index c.answer-item.result c.deref.result.now c.loop-answer-test.true c.answer-item.is c.deref.ensures.value) c.loop-answer.invariant
    c.in_err-put_answer.ensures.began

pub loop-answer-preserved : goal.loop-answer-preserved
loop-answer-preserved g c =
    step_as g.D.Disk.calls (deliver_calls (map owed_as c.args.owed.now)) (deliver_calls (map owed_as (drop c.loop-answer.answer-index c.args.owed.now)))
    (Write Unfinished c.deref.result.now ∷ SyncFile Unfinished ∷ Rename Unfinished (Answer c.answer-item.result.number) ∷ []) (deliver_calls (map owed_as (drop (c.loop-answer.answer-index + 1) c.args.owed.now)))
    c.args.disk.now c.loop-answer.disk c.put_answer.new.disk
    (next_answer c.args.owed.now c.loop-answer.answer-index c.answer-item.result c.deref.result.now c.loop-answer-test.true c.answer-item.is c.deref.ensures.value) c.loop-answer.invariant
    c.in_ok-put_answer.ensures.did
