use Rattle.std.proofs.Common.{rules, ◌∷◌, refl, sym, ap, ◌∙◌, arith}
use Rattle.sno_text.specs.Nodes.{pattern_of}
use Rattle.sno_pattern.{specs.Steps.{Meet, outcome}, specs.inner.Stack.{waiting_of}, proofs.Reaches.{nowhere_of}}
use Rattle.sno_pattern.proofs.Entering.{pays, runs_out, cat_ends, cat_fails, cat_waits, alt_fails, alt_tries, conditional_met, immediate_met}
use Rattle.sno_pattern.proofs.meeting.descend.Goals as goal

pub loop-left-preserved-then-left-gt0 : goal.loop-left-preserved-then-left-gt0
loop-left-preserved-then-left-gt0 c =
    let text = c.args.text.now in
    let t0 =
    outcome text (Meet (pattern_of c.args.pattern.now.value) ∷ c.args.trail.now.goals) c.args.from
    (waiting_of text c.args.trail.now.waits) c.args.left.now in
    let k = c.loop-left in
    let i = pays text c.args.trail.now.opens t0 c.args.left.now (pattern_of k.node.now.value) k.trail.goals k.at
    (waiting_of text k.trail.waits) k.trail.opens k.left c.loop-left-test.true k.invariant in
    cat_ends i (pattern_of c.in-Cat.a.value) (pattern_of c.in-Cat.b.value) c.in-Here.end (ap pattern_of (sym c.deref-top.ensures ∙ c.in-Cat.is))
    c.if-left-gt0.true (rw c.deref.ensures at (sym c.in-Here.ensures.value)) c.in-Here.ensures.within

pub loop-left-preserved-in-Nowhere-1 : goal.loop-left-preserved-in-Nowhere-1
loop-left-preserved-in-Nowhere-1 c =
    let text = c.args.text.now in
    let t0 =
    outcome text (Meet (pattern_of c.args.pattern.now.value) ∷ c.args.trail.now.goals) c.args.from
    (waiting_of text c.args.trail.now.waits) c.args.left.now in
    let k = c.loop-left in
    let i = pays text c.args.trail.now.opens t0 c.args.left.now (pattern_of k.node.now.value) k.trail.goals k.at
    (waiting_of text k.trail.waits) k.trail.opens k.left c.loop-left-test.true k.invariant in
    cat_fails i (pattern_of c.in-Cat.a.value) (pattern_of c.in-Cat.b.value) (ap pattern_of (sym c.deref-top.ensures ∙ c.in-Cat.is))
    (rw c.deref.ensures at (sym c.in-Nowhere.ensures.value))

pub loop-left-preserved-in_default-reached : goal.loop-left-preserved-in_default-reached
loop-left-preserved-in_default-reached c =
    let text = c.args.text.now in
    let t0 =
    outcome text (Meet (pattern_of c.args.pattern.now.value) ∷ c.args.trail.now.goals) c.args.from
    (waiting_of text c.args.trail.now.waits) c.args.left.now in
    let k = c.loop-left in
    let i = pays text c.args.trail.now.opens t0 c.args.left.now (pattern_of k.node.now.value) k.trail.goals k.at
    (waiting_of text k.trail.waits) k.trail.opens k.left c.loop-left-test.true k.invariant in
    rw c.in_ok-put-in_default-reached.ensures
    (cat_waits i (pattern_of c.in-Cat.a.value) (pattern_of c.in-Cat.b.value)
    (ap pattern_of (sym c.deref-top.ensures ∙ c.in-Cat.is)))

pub loop-left-preserved-then-misses : goal.loop-left-preserved-then-misses
loop-left-preserved-then-misses c =
    let text = c.args.text.now in
    let t0 =
    outcome text (Meet (pattern_of c.args.pattern.now.value) ∷ c.args.trail.now.goals) c.args.from
    (waiting_of text c.args.trail.now.waits) c.args.left.now in
    let k = c.loop-left in
    let i = pays text c.args.trail.now.opens t0 c.args.left.now (pattern_of k.node.now.value) k.trail.goals k.at
    (waiting_of text k.trail.waits) k.trail.opens k.left c.loop-left-test.true k.invariant in
    alt_fails i (pattern_of c.in-Alt.a.value) (pattern_of c.in-Alt.b.value) (ap pattern_of (sym c.deref-top.ensures ∙ c.in-Alt.is)) c.if-left-gt0-2.true
    (nowhere_of _ (rw c.deref-then-left-gt0-2.ensures at (sym c.misses.ensures ∙ c.if-misses.true)))

pub loop-left-preserved-else-left-gt0-2 : goal.loop-left-preserved-else-left-gt0-2
loop-left-preserved-else-left-gt0-2 c =
    let text = c.args.text.now in
    let t0 =
    outcome text (Meet (pattern_of c.args.pattern.now.value) ∷ c.args.trail.now.goals) c.args.from
    (waiting_of text c.args.trail.now.waits) c.args.left.now in
    let k = c.loop-left in
    let i = pays text c.args.trail.now.opens t0 c.args.left.now (pattern_of k.node.now.value) k.trail.goals k.at
    (waiting_of text k.trail.waits) k.trail.opens k.left c.loop-left-test.true k.invariant in
    rw c.in_ok-leave-in-Alt.ensures
    (alt_tries i (pattern_of c.in-Alt.a.value) (pattern_of c.in-Alt.b.value) k.trail.waits
    (ap pattern_of (sym c.deref-top.ensures ∙ c.in-Alt.is)) refl)

pub loop-left-preserved-in-Conditional : goal.loop-left-preserved-in-Conditional
loop-left-preserved-in-Conditional c =
    let text = c.args.text.now in
    let t0 =
    outcome text (Meet (pattern_of c.args.pattern.now.value) ∷ c.args.trail.now.goals) c.args.from
    (waiting_of text c.args.trail.now.waits) c.args.left.now in
    let k = c.loop-left in
    let i = pays text c.args.trail.now.opens t0 c.args.left.now (pattern_of k.node.now.value) k.trail.goals k.at
    (waiting_of text k.trail.waits) k.trail.opens k.left c.loop-left-test.true k.invariant in
    rw (c.in_ok-put-in-Conditional.ensures, sym c.deref-top.ensures ∙ c.in-Conditional.is)
    (conditional_met i (pattern_of c.in-Conditional.p.value) c.in-Conditional.field-2 (ap pattern_of (sym c.deref-top.ensures ∙ c.in-Conditional.is)))

pub loop-left-preserved : goal.loop-left-preserved
loop-left-preserved c =
    let text = c.args.text.now in
    let t0 =
    outcome text (Meet (pattern_of c.args.pattern.now.value) ∷ c.args.trail.now.goals) c.args.from
    (waiting_of text c.args.trail.now.waits) c.args.left.now in
    let k = c.loop-left in
    let i = pays text c.args.trail.now.opens t0 c.args.left.now (pattern_of k.node.now.value) k.trail.goals k.at
    (waiting_of text k.trail.waits) k.trail.opens k.left c.loop-left-test.true k.invariant in
    rw (c.in_ok-put-in-Immediate.ensures, sym c.deref-top.ensures ∙ c.in-Immediate.is)
    (immediate_met i (pattern_of c.in-Immediate.p.value) c.in-Immediate.field-2 (ap pattern_of (sym c.deref-top.ensures ∙ c.in-Immediate.is)))

pub returns-in-Defer : goal.returns-in-Defer
returns-in-Defer c =
    let text = c.args.text.now in
    let t0 =
    outcome text (Meet (pattern_of c.args.pattern.now.value) ∷ c.args.trail.now.goals) c.args.from
    (waiting_of text c.args.trail.now.waits) c.args.left.now in
    let k = c.loop-left in
    let i = pays text c.args.trail.now.opens t0 c.args.left.now (pattern_of k.node.now.value) k.trail.goals k.at
    (waiting_of text k.trail.waits) k.trail.opens k.left c.loop-left-test.true k.invariant in
    (rw (ap pattern_of (sym c.deref-top.ensures ∙ c.in-Defer.is)) at i, tt)

pub returns-in-Cursor : goal.returns-in-Cursor
returns-in-Cursor c =
    let text = c.args.text.now in
    let t0 =
    outcome text (Meet (pattern_of c.args.pattern.now.value) ∷ c.args.trail.now.goals) c.args.from
    (waiting_of text c.args.trail.now.waits) c.args.left.now in
    let k = c.loop-left in
    let i = pays text c.args.trail.now.opens t0 c.args.left.now (pattern_of k.node.now.value) k.trail.goals k.at
    (waiting_of text k.trail.waits) k.trail.opens k.left c.loop-left-test.true k.invariant in
    (rw (ap pattern_of (sym c.deref-top.ensures ∙ c.in-Cursor.is)) at i, tt)

pub returns-in_default : goal.returns-in_default
returns-in_default c =
    let text = c.args.text.now in
    let t0 =
    outcome text (Meet (pattern_of c.args.pattern.now.value) ∷ c.args.trail.now.goals) c.args.from
    (waiting_of text c.args.trail.now.waits) c.args.left.now in
    let k = c.loop-left in
    let i = pays text c.args.trail.now.opens t0 c.args.left.now (pattern_of k.node.now.value) k.trail.goals k.at
    (waiting_of text k.trail.waits) k.trail.opens k.left c.loop-left-test.true k.invariant in
    (i, (search rules, search rules))

pub returns : goal.returns
returns c =
    let text = c.args.text.now in
    let t0 =
    outcome text (Meet (pattern_of c.args.pattern.now.value) ∷ c.args.trail.now.goals) c.args.from
    (waiting_of text c.args.trail.now.waits) c.args.left.now in
    let k = c.loop-left in
    runs_out text c.args.trail.now.opens t0 c.args.left.now (pattern_of k.node.now.value) k.trail.goals k.at
    (waiting_of text k.trail.waits) k.trail k.left (let t = c.loop-left-test.false in omega arith) k.invariant
