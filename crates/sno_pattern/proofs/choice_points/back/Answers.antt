use Rattle.sno_pattern.proofs.Pushing.{backed_whole}
use Rattle.sno_pattern.proofs.choice_points.back.Goals as goal

pub returns-in-Whole : goal.returns-in-Whole
returns-in-Whole c =
    backed_whole c.args.text.now c.args.trail.now.opens c.args.left.now c.requires.all c.in-Some.at c.back.new.self (rw c.in-Whole.is at c.in-Some.ensures)
