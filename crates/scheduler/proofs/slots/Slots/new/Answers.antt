use Rattle.std.proofs.Common.{◌∙◌, ap, arith, ℕ, None, replicate}
use Rattle.scheduler.proofs.{Common.{seats_of}, Seats.{empty_seats}}
use Rattle.scheduler.proofs.slots.Slots.new.Goals as goal

pub returns : goal.returns
returns c = ap seats_of (c.loop.invariant ∙ ap (λ (n : ℕ). replicate n None) (omega arith)) ∙ empty_seats c.args.count
