use Rattle.std.proofs.Common.{◌-◌, ◌∷◌, ap, arith}
use Rattle.interaction.proofs.Held.{cut_here}
use Rattle.sno_text.specs.{Nodes.{pattern_of}, Balance.{part}}
use Rattle.sno_pattern.{specs.Looks.{Fits}, specs.declared.host.Taken.TheVariants.{Part}, specs.Steps.{EndImmediate, outcome}, proofs.Run.{err_holds}}
use Rattle.sno_pattern.{specs.inner.Stack.{variable_in, waiting_of, resume, assigning}, proofs.Pushing.{immediate_asks, not_stepped, quietly, moved_as, cut_as}}
use Rattle.sno_pattern.proofs.consuming.assign_part.Goals as goal

pub returns-then-left-eq0-clause-moved : goal.returns-then-left-eq0-clause-moved
returns-then-left-eq0-clause-moved g c =
    let a = c.args.trail.now in
    quietly g.H.MatchHost.tells g.H.MatchHost.broken c.args.text.now c.args.host.now a.opens _ c.args.left.now
    (not_stepped c.args.text.now (EndImmediate (variable_in (pattern_of c.args.node.now)) c.args.from) a.goals c.args.at
    (waiting_of c.args.text.now a.waits) c.args.left.now a c.if-left-eq0.true c.requires.all)

pub returns-in_err-variable-clause-cut : goal.returns-in_err-variable-clause-cut
returns-in_err-variable-clause-cut g c =
    let a = c.args.trail.now in
    err_holds _ (cut_here g.H.MatchHost.tells Fits g.H.MatchHost.broken
    (resume c.args.text.now a.opens (outcome c.args.text.now (EndImmediate (variable_in (pattern_of c.args.node.now)) c.args.from ∷ a.goals) c.args.at
    (waiting_of c.args.text.now a.waits) c.args.left.now)) c.args.host.now)

pub returns-in_err-part_of-clause-cut : goal.returns-in_err-part_of-clause-cut
returns-in_err-part_of-clause-cut g c =
    let a = c.args.trail.now in
    err_holds _ (cut_here g.H.MatchHost.tells Fits g.H.MatchHost.broken
    (resume c.args.text.now a.opens (outcome c.args.text.now (EndImmediate (variable_in (pattern_of c.args.node.now)) c.args.from ∷ a.goals) c.args.at
    (waiting_of c.args.text.now a.waits) c.args.left.now)) c.args.host.now)

pub returns-in-Ok-clause-moved : goal.returns-in-Ok-clause-moved
returns-in-Ok-clause-moved g c =
    let a = c.args.trail.now in
    let n = c.if-left-eq0.false in
    moved_as g.H.MatchHost.tells g.H.MatchHost.broken c.args.text.now c.args.host.now a.opens _ c.args.left.now
    (assigning c.args.text.now (variable_in (pattern_of c.args.node.now)) (Part (part c.args.text.now c.args.from c.args.at)) a.goals c.args.at
    (waiting_of c.args.text.now a.waits) (c.args.left.now - 1)) a.opens (c.args.left.now - 1)
    (ap (resume c.args.text.now a.opens) (immediate_asks c.args.text.now (variable_in (pattern_of c.args.node.now)) c.args.from a.goals c.args.at
    (waiting_of c.args.text.now a.waits) c.args.left.now n)) (omega arith)
    (rw (c.in_ok-variable.ensures, c.in_ok-part_of.ensures) at c.in-Ok.ensures.moved)

pub returns-clause-cut : goal.returns-clause-cut
returns-clause-cut g c =
    let a = c.args.trail.now in
    let n = c.if-left-eq0.false in
    cut_as g.H.MatchHost.tells g.H.MatchHost.broken c.args.text.now c.args.host.now a.opens _ c.args.left.now
    (assigning c.args.text.now (variable_in (pattern_of c.args.node.now)) (Part (part c.args.text.now c.args.from c.args.at)) a.goals c.args.at
    (waiting_of c.args.text.now a.waits) (c.args.left.now - 1)) a.opens _
    (ap (resume c.args.text.now a.opens) (immediate_asks c.args.text.now (variable_in (pattern_of c.args.node.now)) c.args.from a.goals c.args.at
    (waiting_of c.args.text.now a.waits) c.args.left.now n))
    (rw (c.in_ok-variable.ensures, c.in_ok-part_of.ensures) at c.in-Err.ensures.cut)
