use Rattle.std.proofs.Common.{◌≡◌, Some}
use Rattle.scheduler.proofs.{Common.{KeptFits, slot_of, reached, GoesOn, SameLoans}, Shorthand.{turns_ahead}}
use Rattle.scheduler.proofs.slot.run_to_end.Given as goal

abbrev pub invariant-turns : goal.invariant-turns
invariant-turns g l = record {
  on : GoesOn (slot_of l.fn.slot) l.fn.floor.catalogue.now (slot_of l.slot) l.floor.catalogue.now (g.S.Sink.standing l.fn.floor.audit.now) (g.S.Sink.standing l.floor.audit.now);
  loans : SameLoans l.fn.floor l.floor;
  kept : KeptFits l.slot.number l.slot.account (reached l.floor.catalogue.now (slot_of l.slot)) l.kept;
  number : l.kept.number ≡ l.slot.number;
}

abbrev pub decreases-turns : goal.decreases-turns
decreases-turns g l = turns_ahead (Some (slot_of l.slot))
