use Rattle.std.proofs.Common.{◌≡◌, ◌≢◌, ◌≤◌, ℕ, List, length, Option, refl, sym, subst, arith}
use Rattle.scheduler.proofs.Common.{Slot, Goal, seat_of, seats_of, slots_in, turns_left, GoingTo, stop_of, scheduler_in, length-map}
use Rattle.scheduler.proofs.Rounding.{going_round, goal_at_last, round_length, round_less, below}
use Rattle.scheduler.proofs.slots.Slots.some_rounds.Goals as goal

some_of : (n : ℕ) (slots : List (Option Slot)) → 1 ≤ length slots → n ≡ length (seats_of slots) → n ≢ 0
some_of n slots h e = let k = length-map slots seat_of in omega (arith, h, e, k)

pub returns-in-Some-clause-going : goal.returns-in-Some-clause-going
returns-in-Some-clause-going g c =
    let now = scheduler_in c.args.self.now c.args.floor.now in
    let now' = scheduler_in c.turns_of_lone.new.self c.turns_of_lone.new.floor in
    subst (λ (to : Goal). GoingTo (stop_of to) now c.args.ends.now.items c.turns_of_lone.new.ends.items now' (g.S.Sink.standing c.args.floor.now.audit.now) (g.S.Sink.standing c.turns_of_lone.new.floor.audit.now)) (sym (c.in-Some.ensures.goal refl)) c.turns_of_lone.ensures.going

pub returns-in-None-clause-going : goal.returns-in-None-clause-going
returns-in-None-clause-going g c =
    let now = scheduler_in c.args.self.now c.args.floor.now in
    let now' = scheduler_in c.round.new.self c.round.new.floor in
    let size = length (slots_in c.args.self.now) in
    going_round (stop_of c.args.goal) c.args.ends.now.items c.round.new.ends.items now now' _ _
    (goal_at_last c.args.goal size (some_of size c.args.self.now.items.items c.args.self.now.some refl)) c.requires.busy c.round.ensures.round

pub returns-in-None-clause-less : goal.returns-in-None-clause-less
returns-in-None-clause-less g c =
    let r = c.round.ensures.round in
    let now = scheduler_in c.args.self.now c.args.floor.now in
    let now' = scheduler_in c.round.new.self c.round.new.floor in
    let size = length (slots_in c.args.self.now) in
    let at_last = goal_at_last c.args.goal size (some_of size c.args.self.now.items.items c.args.self.now.some refl) in
    below (turns_left (slots_in c.round.new.self)) (turns_left (slots_in c.args.self.now))
    (round_less (stop_of c.args.goal) size at_last now r.more now' _ _ refl r.is c.requires.busy)

pub returns-in-None-clause-size : goal.returns-in-None-clause-size
returns-in-None-clause-size g c =
    let r = c.round.ensures.round in
    let now = scheduler_in c.args.self.now c.args.floor.now in
    let now' = scheduler_in c.round.new.self c.round.new.floor in
    let size = length (slots_in c.args.self.now) in
    let at_last = goal_at_last c.args.goal size (some_of size c.args.self.now.items.items c.args.self.now.some refl) in
    round_length (stop_of c.args.goal) size at_last now r.more now' _ _ refl r.is
