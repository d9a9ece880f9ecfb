use Rattle.std.proofs.Common.{◌≡◌, ◌∙◌, ℕ, ◌+◌, ◌*◌, drop, nat_cmp, sym, ap, arith}
use Rattle.std.specs.Cmp.Lexicographic.{slice_cmp}
use Rattle.mon_text.proofs.WordOrder.{decided, passed}
use Rattle.mon_text.proofs.words.order.Goals as goal

pub returns-then-a-b : goal.returns-then-a-b
returns-then-a-b c =
    c.cmp.ensures
    ∙ sym (c.loop-i.invariant ∙ decided c.args.x.now c.args.y.now (c.loop-i.i * 8) c.word-a.result c.word-b.result (omega arith) (omega arith) c.fits-x c.fits-y c.word-a.ensures c.word-b.ensures c.if-a-b.true)

pub loop-i-preserved : goal.loop-i-preserved
loop-i-preserved c =
    let next : c.loop-i.i * 8 + 8 ≡ (c.loop-i.i + 1) * 8 = omega arith in
    c.loop-i.invariant
    ∙ passed c.args.x.now c.args.y.now (c.loop-i.i * 8) c.word-a.result c.word-b.result (omega arith) (omega arith) c.fits-x c.fits-y c.word-a.ensures c.word-b.ensures c.if-a-b.false
    ∙ ap (λ (k : ℕ). slice_cmp nat_cmp (drop k c.args.x.now) (drop k c.args.y.now)) next
