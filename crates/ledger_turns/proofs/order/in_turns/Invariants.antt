-- What was put in order, and what the turns that are left take, are all of the order.
use Rattle.std.proofs.Common.{◌≡◌, ◌++◌, ◌-◌, map}
use Rattle.ledger_turns.specs.Order.{in_turns, served}
use Rattle.ledger_turns.proofs.order.in_turns.Given as goal

abbrev pub invariant-loop : goal.invariant-loop
invariant-loop g l =
    l.order.items ++ in_turns (l.turns - l.counter) (map (λ queue. queue.items) l.queues.items) ≡ served l.fn.first (map (λ queue. queue.items) l.fn.queues.items)
