use Rattle.std.proofs.Common.{List, refl, sym, ◌∙◌, subst, arith}
use Rattle.scheduler.proofs.{Common.{JobEnd, slots_in, Going, stop_of, scheduler_in}, Calls.{jobs_few}, Rounding.{going_begins, going_to, going_done}}
use Rattle.scheduler.proofs.Shorthand.{then_loans}
use Rattle.scheduler.proofs.slots.Slots.rounds.Goals as goal

pub rounds-init : goal.rounds-init
rounds-init g c = record {
  going =
      let w = scheduler_in c.args.self.now c.args.floor.now in
      rw c.begin_turns.ensures
      (let a = g.S.Sink.standing c.args.floor.now.audit.now in
      subst (λ (l : List JobEnd). Going (stop_of c.args.goal) w l w a a) (sym c.in_ok-ends.ensures.items) (going_begins (stop_of c.args.goal) w a));
  room =
      let k = jobs_few (slots_in c.args.self.now) in
      rw c.begin_turns.ensures (omega (arith, k, c.in_ok-ends.ensures.len, c.in_ok-ends.ensures.capacity, c.len.ensures));
  size = rw c.begin_turns.ensures refl;
  loans = (refl, refl, refl);
}

pub some_rounds-requires-clause-busy : goal.some_rounds-requires-clause-busy
some_rounds-requires-clause-busy g c = sym (c.is_met-in-rounds.ensures c.rounds.floor.catalogue.now) ∙ c.rounds-test.true

pub rounds-smaller : goal.rounds-smaller
rounds-smaller g c = c.some_rounds.ensures.less

pub rounds-preserved : goal.rounds-preserved
rounds-preserved g c =
    let w = scheduler_in c.args.self.now c.args.floor.now in
    let now = scheduler_in c.rounds.self c.rounds.floor in
    let now' = scheduler_in c.some_rounds.new.self c.some_rounds.new.floor in
    record {
      going = going_to (stop_of c.args.goal) w c.rounds.ends.items c.some_rounds.new.ends.items now now' _ _ _ c.rounds.invariant.going c.some_rounds.ensures.going;
      room = c.some_rounds.ensures.room;
      loans = then_loans c.rounds.invariant.loans c.some_rounds.ensures.loans;
      size = c.some_rounds.ensures.size ∙ c.rounds.invariant.size;
    }

pub returns-clause-rounds : goal.returns-clause-rounds
returns-clause-rounds g c =
    rw c.end_turns.ensures.slots
    (going_done (stop_of c.args.goal) (scheduler_in c.args.self.now c.args.floor.now) c.rounds.ends.items (scheduler_in c.rounds.self c.rounds.floor) _ _
    (sym (c.is_met-in-rounds.ensures c.rounds.floor.catalogue.now) ∙ c.rounds-test.false) c.rounds.invariant.going)
