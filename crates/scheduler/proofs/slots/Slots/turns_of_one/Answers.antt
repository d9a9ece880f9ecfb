use Rattle.std.proofs.Common.{◌∙◌, refl}
use Rattle.scheduler.proofs.{Common.{Empty, slots_in, scheduler, scheduler_in, Goes, Ended}, Calls.{went_on, leaving, stepped_out}, Shorthand.{then_loans}}
use Rattle.scheduler.proofs.Giving.{giving_begins, giving_goes, giving_empty, giving_ended}
use Rattle.scheduler.proofs.slots.Slots.turns_of_one.Goals as goal

pub loop-init : goal.loop-init
loop-init g c = record {
  ahead = giving_begins c.args.slot c.args.count (scheduler_in c.args.self.now c.args.floor.now) _;
  size = refl;
  loans = (refl, refl, refl);
}

pub returns-in-None-clause-marked : goal.returns-in-None-clause-marked
returns-in-None-clause-marked g c =
    giving_empty c.args.slot c.args.count (scheduler_in c.args.self.now c.args.floor.now) c.loop.counter
    (scheduler_in c.loop.self c.loop.floor) (scheduler_in c.step.new.self c.step.new.floor) Empty _ _ _ c.loop.invariant.ahead c.in-None.ensures.step c.loop-test.true refl

pub returns-in-Some-Ended-clause-marked : goal.returns-in-Some-Ended-clause-marked
returns-in-Some-Ended-clause-marked g c =
    let now = scheduler_in c.loop.self c.loop.floor in
    let now' = scheduler_in c.step.new.self c.step.new.floor in
    let ending = c.in-Some-Ended.ending in
    let gone = leaving c.args.slot now now' c.step.result c.in-Some-Ended.field-0 ending _ _ c.in-Some-Ended.is c.in-Some-Ended.field-0-is c.step.ensures.step in
    let one = stepped_out c.args.slot now now' ending c.take_out.result (slots_in c.take_out.new.self) _ _ _ gone (c.take_out.ensures.end gone.slot gone.there) c.take_out.ensures.slots
    c.take_out.ensures.audited in
    giving_ended c.args.slot c.args.count (scheduler_in c.args.self.now c.args.floor.now) c.loop.counter now
    (scheduler c.step.new.floor.catalogue.now (slots_in c.take_out.new.self)) (Ended c.take_out.result) _ _ _ c.loop.invariant.ahead one c.loop-test.true c.take_out.result refl

pub loop-preserved : goal.loop-preserved
loop-preserved g c = record {
  ahead =
      let now = scheduler_in c.loop.self c.loop.floor in
      let now' = scheduler_in c.step.new.self c.step.new.floor in
      let one = went_on c.args.slot now now' c.step.result c.in-Some-Goes.field-0 _ _ c.in-Some-Goes.is c.in-Some-Goes.field-0-is c.step.ensures.step in
      giving_goes c.args.slot c.args.count (scheduler_in c.args.self.now c.args.floor.now) c.loop.counter now now' Goes _ _ _ c.loop.invariant.ahead one c.loop-test.true refl;
  size = c.step.ensures.size ∙ c.loop.invariant.size;
  loans = then_loans c.loop.invariant.loans c.step.ensures.loans;
}
