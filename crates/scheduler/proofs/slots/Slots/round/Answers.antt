use Rattle.std.proofs.Common.{◌<◌, ℕ, length, subst, refl}
use Rattle.scheduler.proofs.{Common.{slots_in, stop_of, scheduler_in}, Rounding.{round_begins, round_step}, Shorthand.{then_loans}}
use Rattle.scheduler.proofs.slots.Slots.round.Goals as goal

pub loop-number-init : goal.loop-number-init
loop-number-init g c = record {
  round = round_begins (stop_of c.args.goal) (scheduler_in c.args.self.now c.args.floor.now) c.args.ends.now.items _;
  room = c.requires.room;
  loans = (refl, refl, refl);
}

pub loop-number-preserved : goal.loop-number-preserved
loop-number-preserved g c = record {
  round =
      let few : c.loop-number.number < length (slots_in c.args.self.now) = subst (λ (n : ℕ). c.loop-number.number < n) c.len-count.ensures c.loop-number-test.true in
      round_step (stop_of c.args.goal) (scheduler_in c.args.self.now c.args.floor.now) c.args.ends.now.items c.loop-number.ends.items c.turn_unless.new.ends.items
      c.loop-number.number (length (slots_in c.args.self.now)) (scheduler_in c.loop-number.self c.loop-number.floor)
      (scheduler_in c.turn_unless.new.self c.turn_unless.new.floor) _ _ _ few c.loop-number.invariant.round c.turn_unless.ensures.turn;
  room = c.turn_unless.ensures.room;
  loans = then_loans c.loop-number.invariant.loans c.turn_unless.ensures.loans;
}
