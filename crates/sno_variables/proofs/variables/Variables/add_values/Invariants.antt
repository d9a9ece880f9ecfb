use Rattle.std.proofs.Common.{◌≡◌, ◌≤◌, ◌++◌, ◌-◌, length, take}
use Rattle.sno_variables.specs.inner.Exchanging.{values_now}
use Rattle.sno_variables.proofs.variables.Variables.add_values.Given as goal

abbrev pub invariant-loop-at : goal.invariant-loop-at
invariant-loop-at l = (l.at ≤ length l.names) × (l.values.items ≡ l.initial.values.items ++ values_now (take l.at l.names) l.self)

abbrev pub decreases-loop-at : goal.decreases-loop-at
decreases-loop-at l = length l.names - l.at
