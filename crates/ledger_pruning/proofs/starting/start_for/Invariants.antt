-- With those that are left it comes to the greatest of all.
use Rattle.std.proofs.Common.{◌≡◌, drop, filter}
use Rattle.ledger_pruning.specs.Starting.{serves, greatest, start_for}
use Rattle.ledger_pruning.proofs.starting.start_for.Given as goal

abbrev pub invariant-loop-checkpoint : goal.invariant-loop-checkpoint
invariant-loop-checkpoint l =
    start_for l.first l.at l.checkpoints ≡ greatest l.best (filter (λ c. serves l.first l.at c) (drop l.checkpoint-index l.checkpoints))
