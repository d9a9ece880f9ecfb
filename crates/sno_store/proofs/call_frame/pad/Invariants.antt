use Rattle.std.proofs.Common.{◌≡◌, ◌≤◌, ◌-◌, length}
use Rattle.sno_store.specs.inner.Filling.{fitted}
use Rattle.sno_store.proofs.call_frame.pad.Given as goal

abbrev pub invariant-loop-values : goal.invariant-loop-values
invariant-loop-values l = (length l.values.items ≤ l.count) × (fitted l.count l.values.items ≡ fitted l.count l.initial.values.items)

abbrev pub decreases-loop-values : goal.decreases-loop-values
decreases-loop-values l = l.count - length l.values.items
