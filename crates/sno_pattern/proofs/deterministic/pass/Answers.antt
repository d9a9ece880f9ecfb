use Rattle.std.proofs.Common.{◌≡◌, sym, arith}
use Rattle.sno_text.specs.{Nodes.{pattern_of}, declared.reach.Reach.TheVariants.{Here}, inner.Reaching.{reached}}
use Rattle.sno_pattern.proofs.Passing.{passes, passes_by}
use Rattle.sno_pattern.proofs.deterministic.pass.Goals as goal

pub returns-in_ok-put_by-in-Here-clause-same : goal.returns-in_ok-put_by-in-Here-clause-same
returns-in_ok-put_by-in-Here-clause-same c =
    let some = c.if-limit-gt2.true in
    let h : reached c.args.text.now (pattern_of c.in-Conditional.inner.value) c.args.at ≡ Here c.in-Here.end =
    rw c.deref.ensures at (sym c.in-Here.ensures.value) in
    λ r. rw (c.in-Conditional.is, c.in_ok-put_by-in-Here.ensures)
    (passes_by c.args.text.now r c.args.at c.args.pending.now.items c.args.limit
    (pattern_of c.in-Conditional.inner.value) c.in-Conditional.variable c.in-Here.end (omega arith) h)

pub returns-in-Here-reached : goal.returns-in-Here-reached
returns-in-Here-reached c =
    let some = c.if-limit-gt0.true in
    record {
      same = λ r. passes c.args.text.now r c.args.at c.args.pending.now.items c.args.limit (pattern_of c.args.node.now) c.in-Here-reached.end
          (omega arith) (sym c.in-Here-reached.ensures.value);
      within = c.in-Here-reached.ensures.within;
      fewer = omega arith;
    }
