-- What is left has the first point.
use Rattle.std.proofs.Common.{◌≡◌, drop}
use Rattle.ledger_pruning.specs.Ages.{point}
use Rattle.ledger_pruning.proofs.ages.point.Given as goal

abbrev pub invariant-loop-index : goal.invariant-loop-index
invariant-loop-index l = point 0 l.name ≡ point l.index (drop l.index l.name)
