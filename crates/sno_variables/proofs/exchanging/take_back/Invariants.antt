use Rattle.std.proofs.Common.{◌≡◌, ◌≤◌, length}
use Rattle.sno_declarations.specs.Prototypes.{names_of}
use Rattle.sno_variables.specs.inner.{Places.{AreDistinct}, Exchanging.{undone}}
use Rattle.sno_variables.proofs.exchanging.take_back.Given as goal

abbrev pub invariant-loop-left : goal.invariant-loop-left
invariant-loop-left l =
    (l.left ≤ length l.values.items) × (length l.values.items ≡ length (names_of l.prototype)) × AreDistinct l.variables.entries
    × (undone l.left (names_of l.prototype) l.values.items l.variables.entries ≡ undone l.initial.left (names_of l.prototype) l.initial.values.items l.initial.variables.entries)

abbrev pub decreases-loop-left : goal.decreases-loop-left
decreases-loop-left l = l.left
