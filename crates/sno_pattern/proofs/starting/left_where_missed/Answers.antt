use Rattle.std.proofs.Common.{◌≡◌, suc, ◌-◌, refl, sym, ◌∙◌, arith}
use Rattle.sno_text.specs.Nodes.{pattern_of}
use Rattle.sno_pattern.proofs.{Reaches.{nowhere_of}, Missing.{leads_on, leads_nowhere}}
use Rattle.sno_pattern.proofs.starting.left_where_missed.Goals as goal

pub loop-left-init : goal.loop-left-init
loop-left-init c = λ r w. (r, refl)

pub loop-left-preserved : goal.loop-left-preserved
loop-left-preserved c =
    let one : c.loop-left.left ≡ suc (c.loop-left.left - 1) = (let t = c.loop-left-test.true in omega arith) in
    leads_on c.args.text.now (pattern_of c.args.node.now) c.args.at c.args.limit (pattern_of c.loop-left.part.now)
    (pattern_of c.in-Some.first.now) c.loop-left.left (c.loop-left.left - 1) one c.loop-left.invariant c.in-Some.ensures

pub returns-then-misses : goal.returns-then-misses
returns-then-misses c =
    let one : c.loop-left.left ≡ suc (c.loop-left.left - 1) = (let t = c.loop-left-test.true in omega arith) in
    leads_nowhere c.args.text.now (pattern_of c.args.node.now) c.args.at c.args.limit (pattern_of c.loop-left.part.now) c.loop-left.left
    (c.loop-left.left - 1) one c.loop-left.invariant (nowhere_of _ (sym c.misses.ensures ∙ c.if-misses.true))
