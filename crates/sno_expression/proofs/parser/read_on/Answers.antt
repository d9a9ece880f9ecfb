use Rattle.std.proofs.Common.{◌≡◌, ◌+◌, ◌∙◌, ap, sym, drop, length, arith}
use Rattle.sno_expression.{specs.Abstraction.{expressions_of}, specs.inner.Telling.{most, lack_at, told, with_lack}, specs.inner.Told.{state_of}, proofs.Loop.{more, on_next, on_end, left_from}}
use Rattle.sno_expression.proofs.parser.read_on.Goals as goal

pub returns-in-End : goal.returns-in-End
returns-in-End c =
    let ts = c.args.tokens.now in
    let i = c.loop-at.at in
    let t = c.index-tokens-at.result in
    sym (on_end c.args.alone (state_of c.loop-at.state) (expressions_of c.in-End.tree) t (drop i ts) (drop (i + 1) ts) c.loop-at.lacking c.in-End.blank (told c.args.alone (state_of c.args.begun) ts)
    (more ts i t c.loop-at-test.true c.index-tokens-at.is) (rw c.in-End.is at c.in_ok-next.ensures)
    c.loop-at.invariant.same) ∙ sym c.ended_at.ensures

pub loop-at-preserved : goal.loop-at-preserved
loop-at-preserved c =
    let ts = c.args.tokens.now in
    let i = c.loop-at.at in
    let t = c.index-tokens-at.result in
    let m = more ts i t c.loop-at-test.true c.index-tokens-at.is in
    let all = told c.args.alone (state_of c.args.begun) ts in
    let here : c.lack-here.result ≡ lack_at (state_of c.loop-at.state) t (length (drop i ts)) =
    c.lack-here.ensures ∙ ap (lack_at (state_of c.loop-at.state) t) (left_from ts (drop (i + 1) ts) i t m) in
    let next : all ≡ with_lack c.most-lacking.result (told c.args.alone (state_of c.in-Next.next) (drop (i + 1) ts)) =
    on_next c.args.alone (state_of c.loop-at.state) (state_of c.in-Next.next) t (drop i ts) (drop (i + 1) ts) c.loop-at.lacking c.most-lacking.result all
    m (rw c.in-Next.is at c.in_ok-next.ensures) (c.most-lacking.ensures ∙ ap (most c.loop-at.lacking) here) c.loop-at.invariant.same in
    let w = c.loop-at-test.true in
    record { same = next; within = omega arith }
