use Rattle.std.proofs.Common.{arith, refl}
use Rattle.scheduler.proofs.{Common.{Empty, slots_in, job_end, scheduler_in, Goes, Ended}, Calls.{turn_jobs, went_on, leaving, stepped_out, leaving_jobs}}
use Rattle.scheduler.proofs.slots.Slots.turn_into.Goals as goal

pub returns-in-None-clause-jobs : goal.returns-in-None-clause-jobs
returns-in-None-clause-jobs g c =
    let w = scheduler_in c.args.self.now c.args.floor.now in
    let now = scheduler_in c.step.new.self c.step.new.floor in
    let k = turn_jobs c.args.slot w now Empty _ _ c.in-None.ensures.step in
    omega (arith, k)

pub returns-in-Some-Goes-clause-jobs : goal.returns-in-Some-Goes-clause-jobs
returns-in-Some-Goes-clause-jobs g c =
    let w = scheduler_in c.args.self.now c.args.floor.now in
    let now = scheduler_in c.step.new.self c.step.new.floor in
    let k = turn_jobs c.args.slot w now Goes _ _ (went_on c.args.slot w now c.step.result c.in-Some-Goes.field-0 _ _ c.in-Some-Goes.is c.in-Some-Goes.field-0-is c.step.ensures.step) in
    omega (arith, k)

pub keep_end-requires-clause-room : goal.keep_end-requires-clause-room
keep_end-requires-clause-room g c =
    let w = scheduler_in c.args.self.now c.args.floor.now in
    let now = scheduler_in c.step.new.self c.step.new.floor in
    let gone = leaving c.args.slot w now c.step.result c.in-Some-Ended.field-0 c.in-Some-Ended.ending _ _ c.in-Some-Ended.is c.in-Some-Ended.field-0-is c.step.ensures.step in
    let k = leaving_jobs c.args.slot w now c.in-Some-Ended.ending _ _ gone in
    omega (arith, k, c.requires.room)

pub returns-in-Some-Ended-clause-jobs : goal.returns-in-Some-Ended-clause-jobs
returns-in-Some-Ended-clause-jobs g c =
    let w = scheduler_in c.args.self.now c.args.floor.now in
    let now = scheduler_in c.step.new.self c.step.new.floor in
    let gone = leaving c.args.slot w now c.step.result c.in-Some-Ended.field-0 c.in-Some-Ended.ending _ _ c.in-Some-Ended.is c.in-Some-Ended.field-0-is c.step.ensures.step in
    let k = leaving_jobs c.args.slot w now c.in-Some-Ended.ending _ _ gone in
    rw c.keep_end.ensures.slots (omega (arith, k, c.keep_end.ensures.len))

pub returns-in-Some-Ended-clause-turn : goal.returns-in-Some-Ended-clause-turn
returns-in-Some-Ended-clause-turn g c =
    let w = scheduler_in c.args.self.now c.args.floor.now in
    let now = scheduler_in c.step.new.self c.step.new.floor in
    let gone = leaving c.args.slot w now c.step.result c.in-Some-Ended.field-0 c.in-Some-Ended.ending _ _ c.in-Some-Ended.is c.in-Some-Ended.field-0-is c.step.ensures.step in
    let end = job_end gone.slot c.in-Some-Ended.ending in
    record {
      told = Ended end;
      is = rw c.keep_end.ensures.sets (stepped_out c.args.slot w now c.in-Some-Ended.ending end (slots_in c.keep_end.new.self) _ _ _ gone refl c.keep_end.ensures.slots
          (c.keep_end.ensures.audited gone.slot gone.there));
      kept = c.keep_end.ensures.items gone.slot gone.there;
    }
