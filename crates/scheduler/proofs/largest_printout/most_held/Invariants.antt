-- The seats that are left, behind the job that is noted, have the whole's holder.
use Rattle.std.proofs.Common.{◌≡◌, drop}
use Rattle.scheduler.proofs.Common.{seats_of, most_from, most_held}
use Rattle.scheduler.proofs.largest_printout.most_held.Given as goal

abbrev pub invariant-loop-seat : goal.invariant-loop-seat
invariant-loop-seat l = most_from l.most (seats_of (drop l.seat-index l.seats)) ≡ most_held (seats_of l.seats)
