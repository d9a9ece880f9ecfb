use Rattle.sno_text.specs.Nodes.{pattern_of}
use Rattle.sno_pattern.proofs.Pushing.{arbno}
use Rattle.sno_pattern.proofs.steps.one_more.Goals as goal

pub returns : goal.returns
returns c =
    let a = c.args.trail.now in
    rw (c.pass.ensures, c.in_ok-leave.ensures, c.in_ok-push.ensures, c.in_ok-clone-2.ensures.cases, c.in_ok-clone.ensures.cases)
    (arbno c.args.text.now a.goals c.args.at a.waits a.opens c.requires.all c.args.left (pattern_of c.args.pattern.now.value) c.requires.cursor)
