use Rattle.std.proofs.Common.{◌∙◌, sym, arith}
use Rattle.sno_text.specs.Nodes.{pattern_of}
use Rattle.sno_pattern.proofs.{Reaches.{nowhere_of}, Pushing.{skip_one}, Jumping.{skip_many}}
use Rattle.sno_pattern.proofs.choice_points.skip_node.Goals as goal

pub loop-at-preserved : goal.loop-at-preserved
loop-at-preserved c =
    let i = c.loop-at.invariant in
    let within = c.missed_ahead.ensures.within in
    let count = c.min-count.ensures in
    let text = c.args.text.now in
    record {
      within = omega arith;
      fewer = (let k = i.fewer in omega arith);
      same = λ r p. i.same r p
          ∙ skip_one text (pattern_of c.args.node.now) c.loop-at.at c.loop-at.steps r p c.loop-at-test.true
          (let u = c.if-steps-gt0.true in omega arith) (nowhere_of _ (sym c.if-misses.ensures))
          ∙ skip_many text (pattern_of c.args.node.now) r p c.min-count.result _ _ (omega arith) (omega arith)
          (λ k low high. c.missed_ahead.ensures.missed k low (omega arith));
    }
