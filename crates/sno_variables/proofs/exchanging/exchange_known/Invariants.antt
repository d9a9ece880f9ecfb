use Rattle.std.proofs.Common.{◌≡◌, ◌≤◌, ◌++◌, ◌-◌, length, take, drop}
use Rattle.sno_declarations.specs.Prototypes.{names_of}
use Rattle.sno_variables.specs.{Bindings.{paired, assigned}, inner.Places.{AreDistinct}, inner.Exchanging.{taken_by, undone}}
use Rattle.sno_variables.proofs.exchanging.exchange_known.Given as goal

abbrev pub invariant-loop-at : goal.invariant-loop-at
invariant-loop-at l =
    (l.at ≤ length l.values.items) × (length l.values.items ≡ length (names_of l.prototype)) × (length l.values.items ≡ length l.initial.values.items) × AreDistinct l.variables.entries
    × (undone l.at (names_of l.prototype) l.values.items l.variables.entries ≡ (l.initial.values.items, l.initial.variables.entries))
    × (assigned (paired (drop l.at (names_of l.prototype)) (drop l.at l.values.items)) l.variables.entries ≡ assigned (paired (names_of l.prototype) l.initial.values.items) l.initial.variables.entries)
    × (take l.at l.values.items ++ taken_by (drop l.at (names_of l.prototype)) (drop l.at l.values.items) l.variables.entries ≡ taken_by (names_of l.prototype) l.initial.values.items l.initial.variables.entries)

abbrev pub decreases-loop-at : goal.decreases-loop-at
decreases-loop-at l = length l.values.items - l.at
