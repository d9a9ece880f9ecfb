use Rattle.std.proofs.Common.{sym}
use Rattle.std.proofs.lemmas.Result.{IfOk-weaker}
use Rattle.sno_text.specs.Nodes.{pattern_of}
use Rattle.sno_pattern.proofs.{Pushing.{stands, misses}, Reaches.{parted_of}}
use Rattle.sno_pattern.proofs.steps.plain.Goals as goal

pub parted-requires-clause-parted : goal.parted-requires-clause-parted
parted-requires-clause-parted c =
    parted_of c.args.text.now (pattern_of c.args.node.now.value) c.args.at
    (rw c.deref.ensures at (sym c.in-Depends.ensures.value)) c.requires.quiet c.requires.whole

pub returns-in-Here : goal.returns-in-Here
returns-in-Here c =
    let a = c.args.trail.now in
    stands c.args.text.now a.goals c.args.at a.waits a.opens c.requires.all c.args.left.now (pattern_of c.args.node.now.value) c.in-Here.end
    (rw c.deref.ensures at (sym c.in-Here.ensures.value)) c.in-Here.ensures.within

pub returns-in-Nowhere : goal.returns-in-Nowhere
returns-in-Nowhere c =
    let a = c.args.trail.now in
    IfOk-weaker _ _ _ (λ t b. misses c.args.text.now a.goals c.args.at a.waits a.opens c.requires.all c.args.left.now
    (pattern_of c.args.node.now.value) (rw c.deref.ensures at (sym c.in-Nowhere.ensures.value)) b) c.back.ensures
