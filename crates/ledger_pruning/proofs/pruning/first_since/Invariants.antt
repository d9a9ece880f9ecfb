-- All so far are earlier.
use Rattle.std.proofs.Common.{◌≡◌, ◌+◌, drop}
use Rattle.ledger_pruning.specs.Pruning.{first_since}
use Rattle.ledger_pruning.proofs.pruning.first_since.Given as goal

abbrev pub invariant-loop-index : goal.invariant-loop-index
invariant-loop-index l = first_since l.since l.times ≡ l.index + first_since l.since (drop l.index l.times)
