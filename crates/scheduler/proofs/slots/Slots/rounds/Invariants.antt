use Rattle.std.proofs.Common.{◌≡◌, ◌+◌, ◌≤◌, length, vec_len, vec_capacity}
use Rattle.scheduler.proofs.Common.{slots_in, turns_left, Going, stop_of, jobs_in, SameLoans, scheduler_in}
use Rattle.scheduler.proofs.slots.Slots.rounds.Given as goal

abbrev pub invariant-rounds : goal.invariant-rounds
invariant-rounds g l = record {
  going : Going (stop_of l.goal) (scheduler_in l.fn.self l.fn.floor) l.ends.items (scheduler_in l.self l.floor)
      (g.S.Sink.standing l.fn.floor.audit.now) (g.S.Sink.standing l.floor.audit.now);
  room : vec_len l.ends + jobs_in (slots_in l.self) ≤ vec_capacity l.ends;
  size : length (slots_in l.self) ≡ length (slots_in l.fn.self);
  loans : SameLoans l.fn.floor l.floor;
}

abbrev pub decreases-rounds : goal.decreases-rounds
decreases-rounds g l = turns_left (slots_in l.self)
