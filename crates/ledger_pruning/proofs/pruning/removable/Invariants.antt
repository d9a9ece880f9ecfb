-- Those of the numbers so far.
use Rattle.std.proofs.Common.{◌≡◌, take, filter}
use Rattle.std.specs.Prelude.{nat_lt}
use Rattle.ledger_pruning.proofs.pruning.removable.Given as goal

abbrev pub invariant-loop-number : goal.invariant-loop-number
invariant-loop-number l = l.old.items ≡ filter (λ n. nat_lt n l.first) (take l.number-index l.numbers)
