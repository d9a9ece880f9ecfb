use Rattle.std.proofs.Common.{◌≡◌, ℕ, ◌+◌, List, [], ◌∷◌, get_or, drop, refl, sym, ◌∙◌, subst, arith, add-one, drop-cons}
use Rattle.scheduler.proofs.{Common.{drop_of_length-le, JobEnd, seat_of, seats_of, never, Ahead, scheduler_in, length-map}, Calls.{jobs_few}}
use Rattle.scheduler.proofs.{Rounding.{begin, ahead_more, ahead_done}, Shorthand.{then_loans}}
use Rattle.scheduler.proofs.slots.Slots.turns.Goals as goal

pub loop-number-init : goal.loop-number-init
loop-number-init g c = record {
  ahead =
      let w = scheduler_in c.args.self.now c.args.floor.now in
      rw c.begin_turns.ensures
      (let a = g.S.Sink.standing c.args.floor.now.audit.now in
      subst (λ (l : List JobEnd). Ahead never c.args.order.now w l c.args.order.now w a a) (sym c.in_ok-ends.ensures.items) (begin never c.args.order.now w a));
  room =
      let items = c.args.self.now.items.items in
      let k = jobs_few (seats_of items) in
      let same = length-map items seat_of in
      rw c.begin_turns.ensures (omega (arith, k, same, c.args.self.now.few, c.in_ok-ends.ensures.len, c.in_ok-ends.ensures.capacity, c.min.ensures));
  size = rw c.begin_turns.ensures refl;
  loans = (refl, refl, refl);
}

pub turn_into-requires : goal.turn_into-requires
turn_into-requires g c = omega (arith, c.loop-number.invariant.room, c.loop-number-test.true)

pub loop-number-preserved : goal.loop-number-preserved
loop-number-preserved g c =
    let i = c.loop-number.number-index in
    let E = c.args.order.now in
    let s = get_or E i 0 in
    let w = scheduler_in c.args.self.now c.args.floor.now in
    let now = scheduler_in c.loop-number.self c.loop-number.floor in
    let now' = scheduler_in c.turn_into.new.self c.turn_into.new.floor in
    let one = c.turn_into.ensures.turn in
    let a = g.S.Sink.standing c.args.floor.now.audit.now in
    let b = g.S.Sink.standing c.loop-number.floor.audit.now in
    record {
      ahead =
          let more : drop i E ≡ get_or E i 0 ∷ drop (i + 1) E = rw add-one (drop-cons E i 0 c.loop-number-test.true) in
          ahead_more never E w c.loop-number.ends.items c.turn_into.new.ends.items s (drop (i + 1) E) now now' one.told a b _ refl
          (subst (λ (l : List ℕ). Ahead never E w c.loop-number.ends.items l now a b) more c.loop-number.invariant.ahead) one.is one.kept;
      room = omega (arith, c.loop-number.invariant.room, c.loop-number-test.true, c.turn_into.ensures.jobs, c.turn_into.ensures.one, c.turn_into.ensures.room);
      size = c.turn_into.ensures.size ∙ c.loop-number.invariant.size;
      loans = then_loans c.loop-number.invariant.loans c.turn_into.ensures.loans;
    }

pub returns-clause-marked : goal.returns-clause-marked
returns-clause-marked g c =
    let E = c.args.order.now in
    let none : drop c.loop-number.number-index E ≡ [] = drop_of_length-le E c.loop-number-test.false in
    rw c.end_turns.ensures.slots
    (ahead_done never E (scheduler_in c.args.self.now c.args.floor.now) c.loop-number.ends.items (drop c.loop-number.number-index E)
    (scheduler_in c.loop-number.self c.loop-number.floor) _ _ none c.loop-number.invariant.ahead)
