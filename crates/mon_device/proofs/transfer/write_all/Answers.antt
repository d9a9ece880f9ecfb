use Rattle.std.proofs.Common.{rules}
use Rattle.mon_device.proofs.Holding.{one_write}
use Rattle.mon_device.proofs.transfer.write_all.Goals as goal

pub loop-rest-preserved : goal.loop-rest-preserved
loop-rest-preserved g c =
    let step = one_write _ _ _ _ c.loop-rest.rest.now c.in_ok-count.count c.loop-rest.invariant.taken c.loop-rest.invariant.all c.in_ok-count.ensures.taken in
    record { all = step.all; taken = step.taken; remaining = search rules; reads = search rules; read = search rules; write = search rules }
