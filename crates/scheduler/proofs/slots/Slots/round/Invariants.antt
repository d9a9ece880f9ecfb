use Rattle.std.proofs.Common.{◌+◌, ◌-◌, ◌≤◌, length, vec_len, vec_capacity}
use Rattle.scheduler.proofs.Common.{range_with_len, slots_in, RoundTo, stop_of, jobs_in, SameLoans, scheduler_in}
use Rattle.scheduler.proofs.slots.Slots.round.Given as goal

abbrev pub invariant-loop-number : goal.invariant-loop-number
invariant-loop-number g l = record {
  round : RoundTo (stop_of l.goal) (scheduler_in l.fn.self l.fn.floor) l.fn.ends.items l.ends.items
      (range_with_len (l.number + 1) (length (slots_in l.fn.self) - l.number)) (scheduler_in l.self l.floor)
      (g.S.Sink.standing l.fn.floor.audit.now) (g.S.Sink.standing l.floor.audit.now);
  room : vec_len l.ends + jobs_in (slots_in l.self) ≤ vec_capacity l.ends;
  loans : SameLoans l.fn.floor l.floor;
}
