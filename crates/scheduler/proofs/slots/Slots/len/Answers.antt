use Rattle.std.proofs.Common.{rules}
use Rattle.scheduler.proofs.Common.{seat_of, length-map}
use Rattle.scheduler.proofs.slots.Slots.len.Goals as goal

pub returns : goal.returns
returns c = let k = length-map c.args.self.now.items.items seat_of in search (rules, k)
