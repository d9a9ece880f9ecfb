-- What is left to be assigned, and that there is room for it.
use Rattle.std.proofs.Common.{◌≡◌, ◌≤◌, length}
use Rattle.indexmap.specs.IndexMap.{spare}
use Rattle.sno_variables.specs.{Bindings.{assigned}, inner.Places.{AreDistinct}}
use Rattle.sno_variables.proofs.lookup.assign_all.Given as goal

abbrev pub invariant-loop-name : goal.invariant-loop-name
invariant-loop-name l =
    (assigned l.left l.variables.entries ≡ assigned l.initial.left l.initial.variables.entries) × (length l.left ≤ spare l.variables) × AreDistinct l.variables.entries

abbrev pub decreases-loop-name : goal.decreases-loop-name
decreases-loop-name l = length l.left
