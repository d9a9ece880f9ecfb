-- Those so far are seen.
use Rattle.std.proofs.Common.{take}
use Rattle.ledger_run.specs.{Finishing.{Looks}, Sorting.{AreSeen}}
use Rattle.ledger_run.proofs.finishing.see_drops.Given as goal

abbrev pub invariant-loop-drop : goal.invariant-loop-drop
invariant-loop-drop g l = Looks g.D.Disk.calls (AreSeen (take l.drop-index l.drops) l.boxed.items) l.fn.disk l.disk
