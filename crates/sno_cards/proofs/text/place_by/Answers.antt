use Rattle.std.proofs.Common.{◌≡◌, ◌++◌, ◌<◌, ◌/◌, take, ap, ◌∙◌, take-append-drop, length, arith}
use Rattle.sno_cards.{specs.inner.Segments.{nowhere}, proofs.Placing.{by_later_half, by_earlier_half, later_ascends, earlier_ascends}}
use Rattle.sno_cards.proofs.text.place_by.Goals as goal

pub loop-rest-preserved-then-behind-offset : goal.loop-rest-preserved-then-behind-offset
loop-rest-preserved-then-behind-offset c =
    let front = c.split_at.result.0.now in
    let back = c.split_at.result.1.now in
    let rest = c.loop-rest.rest.now in
    let is : front ++ back ≡ rest = ap (λ xs. xs ++ back) c.split_at.ensures.front ∙ ap (λ ys. take (length rest / 2) rest ++ ys) c.split_at.ensures.back ∙ take-append-drop (length rest / 2) rest in
    let some : 0 < length back = omega (arith, c.split_at.ensures.back_len, c.loop-rest-test.true) in
    record {
      ascending = later_ascends rest front back is c.loop-rest.invariant.ascending;
      same = by_later_half nowhere rest front back c.args.offset _ is some c.if-behind-offset.true ∙ c.loop-rest.invariant.same;
    }

pub loop-rest-preserved : goal.loop-rest-preserved
loop-rest-preserved c =
    let front = c.split_at.result.0.now in
    let back = c.split_at.result.1.now in
    let rest = c.loop-rest.rest.now in
    let is : front ++ back ≡ rest = ap (λ xs. xs ++ back) c.split_at.ensures.front ∙ ap (λ ys. take (length rest / 2) rest ++ ys) c.split_at.ensures.back ∙ take-append-drop (length rest / 2) rest in
    let some : 0 < length back = omega (arith, c.split_at.ensures.back_len, c.loop-rest-test.true) in
    record {
      ascending = earlier_ascends rest front back is c.loop-rest.invariant.ascending;
      same = by_earlier_half nowhere rest front back c.args.offset _ is some c.if-behind-offset.false c.loop-rest.invariant.ascending ∙ c.loop-rest.invariant.same;
    }
