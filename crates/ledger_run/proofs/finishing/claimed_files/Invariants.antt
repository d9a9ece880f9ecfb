-- All files so far are gathered.
use Rattle.ledger_run.specs.Finishing.{Looks, Gathered}
use Rattle.ledger_run.proofs.finishing.claimed_files.Given as goal

abbrev pub invariant-loop : goal.invariant-loop
invariant-loop g l = Looks g.D.Disk.calls (Gathered l.files.items l.from) l.fn.disk l.disk
