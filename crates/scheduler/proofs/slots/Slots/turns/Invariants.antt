use Rattle.std.proofs.Common.{◌≡◌, ◌+◌, ◌-◌, ◌≤◌, length, drop, min, vec_len, vec_capacity}
use Rattle.scheduler.proofs.Common.{slots_in, never, Ahead, jobs_in, SameLoans, scheduler_in}
use Rattle.scheduler.proofs.slots.Slots.turns.Given as goal

abbrev pub invariant-loop-number : goal.invariant-loop-number
invariant-loop-number g l = record {
  ahead : Ahead never l.order (scheduler_in l.fn.self l.fn.floor) l.ends.items (drop l.number-index l.order) (scheduler_in l.self l.floor)
      (g.S.Sink.standing l.fn.floor.audit.now) (g.S.Sink.standing l.floor.audit.now);
  room : vec_len l.ends + min (jobs_in (slots_in l.self)) (length l.order - l.number-index) ≤ vec_capacity l.ends;
  size : length (slots_in l.self) ≡ length (slots_in l.fn.self);
  loans : SameLoans l.fn.floor l.floor;
}
