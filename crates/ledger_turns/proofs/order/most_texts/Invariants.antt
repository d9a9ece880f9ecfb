use Rattle.std.proofs.Common.{◌≡◌, max, map, drop}
use Rattle.ledger_turns.specs.Order.{longest}
use Rattle.ledger_turns.proofs.order.most_texts.Given as goal

abbrev pub invariant-loop-queue : goal.invariant-loop-queue
invariant-loop-queue g l = max l.most (longest (map (λ queue. queue.items) (drop l.queue-index l.queues))) ≡ longest (map (λ queue. queue.items) l.queues)
