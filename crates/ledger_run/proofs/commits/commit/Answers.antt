use Rattle.ledger_run.proofs.Planned.{either}
use Rattle.ledger_run.proofs.commits.commit.Goals as goal

pub returns-clause-any_moment : goal.returns-clause-any_moment
returns-clause-any_moment g c = either g.D.Disk.calls c.args.bytes.now c.args.number c.args.disk.now c.put_commit.new.disk c.put_commit.ensures.began
