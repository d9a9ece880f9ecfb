use Rattle.std.proofs.Common.{sym, ◌∙◌}
use Rattle.std.proofs.lemmas.Result.{IfOk-weaker}
use Rattle.sno_pattern.proofs.Pushing.{arb, bal, fence, aborts}
use Rattle.sno_pattern.proofs.steps.parted.Goals as goal

pub returns-in_ok-each-in-Arb : goal.returns-in_ok-each-in-Arb
returns-in_ok-each-in-Arb c =
    let a = c.args.trail.now in
    rw (sym c.deref-top.ensures ∙ c.in-Arb.is) (arb c.args.text.now a.goals c.args.at a.waits a.opens c.requires.all c.args.left.now
    c.in_ok-each-in-Arb.ensures)

pub returns-in_ok-balanced-in-Some : goal.returns-in_ok-balanced-in-Some
returns-in_ok-balanced-in-Some c =
    let a = c.args.trail.now in
    rw (sym c.deref-top.ensures ∙ c.in-Bal.is) (bal c.args.text.now a.goals c.args.at a.waits a.opens c.requires.all c.args.left.now _
    c.in-Some.ensures.next c.in_ok-balanced-in-Some.ensures)

pub returns-in-None : goal.returns-in-None
returns-in-None c =
    let a = c.args.trail.now in
    rw (sym c.deref-top.ensures ∙ c.in-Bal.is) (IfOk-weaker _ _ _
    (λ t b. bal c.args.text.now a.goals c.args.at a.waits a.opens c.requires.all c.args.left.now _ c.in-None.ensures.next b) c.back.ensures)

pub returns-in-Abort : goal.returns-in-Abort
returns-in-Abort c =
    let a = c.args.trail.now in
    rw (sym c.deref-top.ensures ∙ c.in-Abort.is) (aborts c.args.text.now a.goals c.args.at a.waits a.opens c.requires.all c.args.left.now)

pub returns-in_ok-leave-in-Fence : goal.returns-in_ok-leave-in-Fence
returns-in_ok-leave-in-Fence c =
    let a = c.args.trail.now in
    rw (sym c.deref-top.ensures ∙ c.in-Fence.is, c.in_ok-leave-in-Fence.ensures)
    (fence c.args.text.now a.goals c.args.at a.waits a.opens c.requires.all c.args.left.now c.requires.cursor)
