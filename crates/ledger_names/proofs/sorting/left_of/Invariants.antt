-- Those so far are there.
use Rattle.std.proofs.Common.{◌≡◌, ◌++◌, drop}
use Rattle.ledger_names.specs.Sorting.{left_of}
use Rattle.ledger_names.proofs.sorting.left_of.Given as goal

abbrev pub invariant-loop-index : goal.invariant-loop-index
invariant-loop-index l = l.left.items ++ left_of l.files l.boxed (drop l.index l.boxed) ≡ left_of l.files l.boxed l.boxed
