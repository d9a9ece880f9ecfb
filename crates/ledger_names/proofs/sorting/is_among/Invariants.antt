-- It is none of those so far.
use Rattle.std.proofs.Common.{◌≡◌, drop}
use Rattle.ledger_names.specs.Sorting.{is_among}
use Rattle.ledger_names.proofs.sorting.is_among.Given as goal

abbrev pub invariant-loop-index : goal.invariant-loop-index
invariant-loop-index l = is_among l.file (drop l.index l.files) ≡ is_among l.file l.files
