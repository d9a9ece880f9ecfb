use Rattle.std.proofs.Common.{◌≡◌, suc, ◌+◌, ◌-◌, [], ◌∙◌, arith}
use Rattle.sno_text.specs.Nodes.{pattern_of}
use Rattle.sno_pattern.proofs.Missing.{next_start}
use Rattle.sno_pattern.proofs.starting.skip_starts.Goals as goal

pub loop-at-preserved : goal.loop-at-preserved
loop-at-preserved c =
    let i = c.loop-at.invariant in
    let t = c.loop-at-test.true in
    let more : c.args.starts - c.loop-at.at ≡ suc (c.args.starts - (c.loop-at.at + 1)) = omega arith in
    record {
      within = omega arith;
      onward = (let k = i.onward in omega arith);
      same = i.same ∙ next_start c.args.text.now (pattern_of c.args.node.now) (c.args.starts - c.loop-at.at)
          (c.args.starts - (c.loop-at.at + 1)) c.loop-at.at c.loop-at.left c.in-Some.after more (c.in-Some.ensures [] []);
    }
