-- The seats that are left are apart exactly where all are.
use Rattle.std.proofs.Common.{◌≡◌, drop}
use Rattle.scheduler.proofs.Common.{are_apart}
use Rattle.scheduler.proofs.independence.are_apart.Given as goal

abbrev pub invariant-loop-index : goal.invariant-loop-index
invariant-loop-index l = are_apart (drop l.index l.slots) ≡ are_apart l.slots
