use Rattle.std.proofs.Common.{arith}
use Rattle.std.specs.declared.{alloc.Global.{Global}, collections.VecDeque.{VecDeque}}
use Rattle.ledger_turns.proofs.Taking.{turn_order, turn_left}
use Rattle.ledger_turns.proofs.order.take_turn.Goals as goal

pub loop-queue-preserved : goal.loop-queue-preserved
loop-queue-preserved g c =
    let i = c.loop-queue.queue-index in
    let all = c.args.queues.now in
    let now = c.loop-queue.queues in record {
      order =
          turn_order (λ (q : VecDeque g.row.T.Denot Global). q.items) i all now c.queue-item.result c.args.order.now.items c.loop-queue.order.items c.take_text.new.order.items
          (omega arith) (omega arith) c.loop-queue.invariant.left c.loop-queue.invariant.order c.in_ok-take_text.ensures.order;
      left =
          turn_left (λ (q : VecDeque g.row.T.Denot Global). q.items) i all now c.queue-item.result c.take_text.new.queue
          (omega arith) (omega arith) c.loop-queue.invariant.left c.in_ok-take_text.ensures.left;
    }
