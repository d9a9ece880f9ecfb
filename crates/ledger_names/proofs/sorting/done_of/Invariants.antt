-- Those so far are there.
use Rattle.std.proofs.Common.{◌≡◌, ◌++◌, drop}
use Rattle.ledger_names.specs.Sorting.{done_of}
use Rattle.ledger_names.proofs.sorting.done_of.Given as goal

abbrev pub invariant-loop-index : goal.invariant-loop-index
invariant-loop-index l = l.done.items ++ done_of l.files (drop l.index l.boxed) ≡ done_of l.files l.boxed
