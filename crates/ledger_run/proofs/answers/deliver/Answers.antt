use Rattle.std.proofs.Common.{map}
use Rattle.ledger_run.{specs.Owing.{owed_as}, proofs.Planned.{answers}}
use Rattle.ledger_run.proofs.answers.deliver.Goals as goal

pub returns-clause-any_moment : goal.returns-clause-any_moment
returns-clause-any_moment g c = answers g.D.Disk.calls (map owed_as c.args.owed.now) c.args.disk.now c.put_answers.new.disk c.put_answers.ensures.began
