-- Those so far are counted.
use Rattle.std.proofs.Common.{◌≡◌, ◌≤◌, ◌+◌, drop}
use Rattle.ledger_names.specs.Sorting.{names_of}
use Rattle.ledger_names.proofs.sorting.names_of.Given as goal

abbrev pub invariant-loop-index : goal.invariant-loop-index
invariant-loop-index l = record {
  counted : l.count + names_of l.file (drop l.index l.boxed) ≡ names_of l.file l.boxed;
  few : l.count ≤ l.index;
}
