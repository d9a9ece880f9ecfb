use Rattle.std.proofs.Common.{◌≡◌, ◌-◌, [], length, replicate}
use Rattle.scheduler.proofs.Common.{slots_in, never, Ahead, SameLoans, scheduler_in}
use Rattle.scheduler.proofs.slots.Slots.turns_of_one.Given as goal

abbrev pub invariant-loop : goal.invariant-loop
invariant-loop g l = record {
  ahead : Ahead never (replicate l.count l.slot) (scheduler_in l.fn.self l.fn.floor) [] (replicate (l.count - l.counter) l.slot) (scheduler_in l.self l.floor)
      (g.S.Sink.standing l.fn.floor.audit.now) (g.S.Sink.standing l.floor.audit.now);
  size : length (slots_in l.self) ≡ length (slots_in l.fn.self);
  loans : SameLoans l.fn.floor l.floor;
}
