-- What was read, and what is left, comes to what is read of all.
use Rattle.std.proofs.Common.{map}
use Rattle.ledger_disk.specs.Disks.{Disk as AnyDisk, AreTrue}
use Rattle.ledger_run.proofs.ReadingOn.{Reads}
use Rattle.ledger_run.proofs.chain.read_behind.Given as goal

abbrev pub invariant-loop-number : goal.invariant-loop-number
invariant-loop-number g l = (first : AnyDisk) → AreTrue (g.D.Disk.calls l.disk) first → Reads g.D.Disk.calls l.fn.disk l.disk (map (λ file. file.items) l.commits.items) l.from l.number l.end first
