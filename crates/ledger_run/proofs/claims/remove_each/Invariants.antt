-- Some of the files so far left their boxes.
use Rattle.ledger_laws.specs.Claims.{removals}
use Rattle.ledger_run.specs.Claiming.{DoesSome}
use Rattle.ledger_run.proofs.claims.remove_each.Given as goal

abbrev pub invariant-loop-drop : goal.invariant-loop-drop
invariant-loop-drop g l = DoesSome g.D.Disk.calls removals l.drops l.gone.items l.fn.disk l.disk
