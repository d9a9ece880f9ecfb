-- What the answers that are left come to comes to what all of them come to.
use Rattle.std.proofs.Common.{drop, map}
use Rattle.ledger_laws.specs.Answers.{deliver_calls}
use Rattle.ledger_run.{specs.Owing.{owed_as}, proofs.Planned.{GoesOn}}
use Rattle.ledger_run.proofs.answers.put_answers.Given as goal

abbrev pub invariant-loop-answer : goal.invariant-loop-answer
invariant-loop-answer g l = GoesOn g.D.Disk.calls (deliver_calls (map owed_as l.owed)) (deliver_calls (map owed_as (drop l.answer-index l.owed))) l.fn.disk l.disk
