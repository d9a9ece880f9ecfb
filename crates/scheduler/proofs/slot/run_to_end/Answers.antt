use Rattle.scheduler.proofs.{Alone.{goes_begins, goes_more, goes_to_end, goes_less}, Common.{slot_of}, Shorthand.{then_loans}}
use Rattle.std.proofs.Common.{refl}
use Rattle.scheduler.proofs.slot.run_to_end.Goals as goal

pub turns-init : goal.turns-init
turns-init g c = record { on = goes_begins (slot_of c.args.slot.now) c.args.floor.now.catalogue.now _; loans = (refl, refl, refl); kept = c.new-kept.ensures.fits _ _ _; number = c.new-kept.ensures.number }

pub returns-in-Ended-clause-goes : goal.returns-in-Ended-clause-goes
returns-in-Ended-clause-goes g c =
    goes_to_end (slot_of c.args.slot.now) c.args.floor.now.catalogue.now (slot_of c.turns.slot) c.turns.floor.catalogue.now (slot_of c.turn_of.new.slot) c.turn_of.new.floor.catalogue.now _ _ _
    c.turns.invariant.on c.turn_of.result c.in-Ended.ending c.in-Ended.is c.turn_of.ensures.step

pub turns-smaller : goal.turns-smaller
turns-smaller g c =
    goes_less (slot_of c.turns.slot) c.turns.floor.catalogue.now (slot_of c.turn_of.new.slot) c.turn_of.new.floor.catalogue.now c.turn_of.result _ _ c.in-Goes.is c.turn_of.ensures.step

pub turns-preserved : goal.turns-preserved
turns-preserved g c = record {
  on = goes_more (slot_of c.args.slot.now) c.args.floor.now.catalogue.now (slot_of c.turns.slot) c.turns.floor.catalogue.now (slot_of c.turn_of.new.slot) c.turn_of.new.floor.catalogue.now _ _ _
      c.turns.invariant.on c.turn_of.result c.in-Goes.is c.turn_of.ensures.step;
  loans = then_loans c.turns.invariant.loans c.turn_of.ensures.loans;
  kept = c.turn_of.ensures.kept;
  number = c.turn_of.ensures.number;
}
