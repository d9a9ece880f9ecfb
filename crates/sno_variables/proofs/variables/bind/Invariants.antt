use Rattle.std.proofs.Common.{◌≡◌, ◌≤◌, ◌++◌, length, drop}
use Rattle.sno_variables.specs.Bindings.{paired}
use Rattle.sno_variables.proofs.variables.bind.Given as goal

abbrev pub invariant-loop-left : goal.invariant-loop-left
invariant-loop-left l = (l.left ≤ length l.names) × (l.bindings ≡ paired (drop l.left l.names) (drop l.left l.values) ++ l.initial.bindings)

abbrev pub decreases-loop-left : goal.decreases-loop-left
decreases-loop-left l = l.left
