-- The last names have been met.
use Rattle.std.proofs.Common.{true, ◌≤◌, length, drop}
use Rattle.sno_declarations.specs.inner.Reading.{Meets}
use Rattle.sno_declarations.proofs.prototype.meet_all.Given as goal

abbrev pub invariant-loop-left : goal.invariant-loop-left
invariant-loop-left l = (l.left ≤ length l.names) × Meets true l.initial.met l.met (drop l.left l.names)

abbrev pub decreases-loop-left : goal.decreases-loop-left
decreases-loop-left l = l.left
