use Rattle.std.proofs.Common.{◌∷◌, refl, arith}
use Rattle.interaction.proofs.Held.{cut_here}
use Rattle.sno_pattern.{specs.Looks.{Fits}, specs.Steps.{outcome}, specs.inner.Stack.{goal_of, waiting_of, resume}, proofs.Pushing.{hands_on, quietly}}
use Rattle.sno_pattern.proofs.consuming.take.Goals as goal

pub returns-in-Meet-clause-moved : goal.returns-in-Meet-clause-moved
returns-in-Meet-clause-moved g c =
    let a = c.args.trail.now in
    rw c.in-Meet.is (quietly g.H.MatchHost.tells g.H.MatchHost.broken c.args.text.now c.args.host.now a.opens _ c.args.left.now
    (hands_on c.args.text.now a.opens _ c.args.left.now a.goals c.args.goal.node c.args.at a.waits c.args.left.now refl
    (omega arith) c.requires.all c.requires.cursor))

pub returns-in-Ok-clause-moved : goal.returns-in-Ok-clause-moved
returns-in-Ok-clause-moved g c =
    let a = c.args.trail.now in
    rw c.in-More.is (quietly g.H.MatchHost.tells g.H.MatchHost.broken c.args.text.now c.args.host.now a.opens _ c.args.left.now c.in-Ok.ensures.led)

pub returns-in-Ok-put_by-clause-moved : goal.returns-in-Ok-put_by-clause-moved
returns-in-Ok-put_by-clause-moved g c =
    let a = c.args.trail.now in
    rw c.in-EndConditional.is (quietly g.H.MatchHost.tells g.H.MatchHost.broken c.args.text.now c.args.host.now a.opens _ c.args.left.now (rw c.deref.ensures at c.in-Ok-put_by.ensures.led))

pub returns-in-Ok-assign_part-clause-moved : goal.returns-in-Ok-assign_part-clause-moved
returns-in-Ok-assign_part-clause-moved g c =
    rw c.in-EndImmediate.is (rw c.deref-in-EndImmediate.ensures at c.in-Ok-assign_part.ensures.moved)

pub returns-in-More-clause-cut : goal.returns-in-More-clause-cut
returns-in-More-clause-cut g c =
    let a = c.args.trail.now in
    cut_here g.H.MatchHost.tells Fits g.H.MatchHost.broken
    (resume c.args.text.now a.opens (outcome c.args.text.now (goal_of c.args.goal ∷ a.goals) c.args.at
    (waiting_of c.args.text.now a.waits) c.args.left.now)) c.args.host.now

pub returns-in-EndConditional-clause-cut : goal.returns-in-EndConditional-clause-cut
returns-in-EndConditional-clause-cut g c =
    let a = c.args.trail.now in
    cut_here g.H.MatchHost.tells Fits g.H.MatchHost.broken
    (resume c.args.text.now a.opens (outcome c.args.text.now (goal_of c.args.goal ∷ a.goals) c.args.at
    (waiting_of c.args.text.now a.waits) c.args.left.now)) c.args.host.now
