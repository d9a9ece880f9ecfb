use Rattle.sno_pattern.proofs.Pushing.{succeed}
use Rattle.sno_pattern.proofs.steps.succeed.Goals as goal

pub returns : goal.returns
returns c =
    let a = c.args.trail.now in
    rw (c.in_ok-leave.ensures, c.in_ok-clone.ensures.cases, c.requires.succeeds)
    (succeed c.args.text.now a.goals c.args.at a.waits a.opens c.requires.all c.args.left c.requires.cursor)
