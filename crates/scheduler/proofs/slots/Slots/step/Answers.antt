use Rattle.scheduler.proofs.Calls.{empty_turn, found, slots_step}
use Rattle.scheduler.proofs.slots.Slots.step.Goals as goal

pub returns-in-Some-clause-step : goal.returns-in-Some-clause-step
returns-in-Some-clause-step g c =
    let items = c.args.self.now.items.items in
    let seat = c.index_mut.result.now in
    let at = found c.args.slot c.in-Some.index items seat c.index_of.result c.in-Some.is c.index_of.ensures.index c.index_mut.ensures.value in
    slots_step c.in-Some.index c.args.slot c.args.floor.now.catalogue.now c.step_at.new.floor.catalogue.now items seat c.step_at.new.seat c.step_at.result _ _ at.number at.is c.step_at.ensures.step

pub returns-in-None-clause-step : goal.returns-in-None-clause-step
returns-in-None-clause-step g c = empty_turn c.args.slot _ _ (c.index_of.ensures.none c.in-None.is)
