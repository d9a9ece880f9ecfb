use Rattle.std.proofs.Common.{◌∷◌, refl, sym, ap, arith}
use Rattle.sno_pattern.specs.{Looks.{Found, Refused, Faulty}, Steps.{Meet, pattern_found, outcome}, inner.Stack.{waiting_of, looking}}
use Rattle.sno_pattern.proofs.{Pushing.{hands_on, faults, asked, asked_cut, asked_broken}, Run.{err_holds}}
use Rattle.sno_pattern.proofs.consuming.looked.Goals as goal

pub returns-in_err-node-in-Ok-clause-cut : goal.returns-in_err-node-in-Ok-clause-cut
returns-in_err-node-in-Ok-clause-cut g c =
    let a = c.args.trail.now in
    err_holds _ (asked_cut g.H.MatchHost.tells g.H.MatchHost.broken c.args.text.now c.args.host.now a.opens
    (looking c.args.text.now c.args.variable.now a.goals c.args.at
    (waiting_of c.args.text.now a.waits) c.args.left.now) c.args.left.now _ _ refl _ (Found c.in-Ok.found) c.in-Ok.ensures.told tt)

pub returns-in_err-back-in-Err-Fail-clause-cut : goal.returns-in_err-back-in-Err-Fail-clause-cut
returns-in_err-back-in-Err-Fail-clause-cut g c =
    let a = c.args.trail.now in
    err_holds _ (asked_cut g.H.MatchHost.tells g.H.MatchHost.broken c.args.text.now c.args.host.now a.opens
    (looking c.args.text.now c.args.variable.now a.goals c.args.at
    (waiting_of c.args.text.now a.waits) c.args.left.now) c.args.left.now _ _ refl _ Refused (rw c.in-Err-Fail.field-0-is at c.in-Err-Fail.ensures.told) tt)

pub returns-in_ok-node-in-Ok-clause-moved : goal.returns-in_ok-node-in-Ok-clause-moved
returns-in_ok-node-in-Ok-clause-moved g c =
    let a = c.args.trail.now in
    asked g.H.MatchHost.tells g.H.MatchHost.broken c.args.text.now c.args.host.now a.opens
    (looking c.args.text.now c.args.variable.now a.goals c.args.at (waiting_of c.args.text.now a.waits) c.args.left.now) c.args.left.now _ _ refl
    (Found c.in-Ok.found) c.in-Ok.ensures.told tt (hands_on c.args.text.now a.opens
    (outcome c.args.text.now (Meet (pattern_found c.in-Ok.found) ∷ a.goals) c.args.at
    (waiting_of c.args.text.now a.waits) c.args.left.now) c.args.left.now
    a.goals c.in_ok-node-in-Ok.node c.args.at a.waits c.args.left.now
    (ap (λ q. outcome c.args.text.now (Meet q ∷ a.goals) c.args.at (waiting_of c.args.text.now a.waits) c.args.left.now)
    (sym c.in_ok-node-in-Ok.ensures)) (omega arith) c.requires.all c.requires.cursor)

pub returns-in_ok-back-in-Err-Fail-clause-moved : goal.returns-in_ok-back-in-Err-Fail-clause-moved
returns-in_ok-back-in-Err-Fail-clause-moved g c =
    let a = c.args.trail.now in
    asked g.H.MatchHost.tells g.H.MatchHost.broken c.args.text.now c.args.host.now a.opens
    (looking c.args.text.now c.args.variable.now a.goals c.args.at
    (waiting_of c.args.text.now a.waits) c.args.left.now) c.args.left.now _ _ refl Refused
    (rw c.in-Err-Fail.field-0-is at c.in-Err-Fail.ensures.told) tt c.in_ok-back-in-Err-Fail.ensures

pub returns-in-Err-Fault-clause-moved : goal.returns-in-Err-Fault-clause-moved
returns-in-Err-Fault-clause-moved g c =
    let a = c.args.trail.now in
    rw c.in-Err-Fault.field-0-is (asked g.H.MatchHost.tells g.H.MatchHost.broken c.args.text.now c.args.host.now a.opens
    (looking c.args.text.now c.args.variable.now a.goals c.args.at (waiting_of c.args.text.now a.waits) c.args.left.now) c.args.left.now _ _ refl
    (Faulty c.in-Err-Fault.fault) (rw c.in-Err-Fault.field-0-is at c.in-Err-Fault.ensures.told) tt
    (faults c.args.text.now a.goals c.args.at a.waits a.opens c.requires.all c.args.left.now c.in-Err-Fault.fault))

pub returns-in-Err-Memory-clause-cut : goal.returns-in-Err-Memory-clause-cut
returns-in-Err-Memory-clause-cut g c =
    let a = c.args.trail.now in
    asked_broken g.H.MatchHost.tells g.H.MatchHost.broken c.args.text.now c.args.host.now a.opens
    (looking c.args.text.now c.args.variable.now a.goals c.args.at
    (waiting_of c.args.text.now a.waits) c.args.left.now) c.args.left.now _ _ refl _ (rw c.in-Err-Memory.field-0-is at c.in-Err-Memory.ensures.told)
