use Rattle.std.proofs.Common.{◌≡◌, ◌++◌, map, take, drop, flat_map}
use Rattle.ledger_turns.proofs.order.take_turn.Given as goal

abbrev pub invariant-loop-queue : goal.invariant-loop-queue
invariant-loop-queue g l = record {
  order : l.order.items ≡ l.fn.order.items ++ flat_map (λ queue. take 1 queue.items) (take l.queue-index l.fn.queues);
  left : map (λ queue. queue.items) l.queues ≡ map (λ queue. drop 1 queue.items) (take l.queue-index l.fn.queues) ++ map (λ queue. queue.items) (drop l.queue-index l.fn.queues);
}
