use Rattle.sno_pattern.proofs.Pushing.{balanced_last, balanced_more}
use Rattle.sno_pattern.proofs.choice_points.balanced.Goals as goal

pub returns-in-None : goal.returns-in-None
returns-in-None c =
    let a = c.args.trail.now in
    balanced_last c.args.text.now a.opens a.goals a.waits c.requires.all c.args.left c.args.at c.in-None.ensures.next c.requires.cursor

pub returns-in_ok-leave-in-Some : goal.returns-in_ok-leave-in-Some
returns-in_ok-leave-in-Some c =
    let a = c.args.trail.now in
    rw c.in_ok-leave-in-Some.ensures (balanced_more c.args.text.now a.opens a.goals a.waits c.requires.all c.args.left c.args.at c.in-Some.next c.in-Some.ensures.next c.requires.cursor c.in-Some.ensures.within)
