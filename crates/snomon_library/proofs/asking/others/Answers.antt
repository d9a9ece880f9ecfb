-- A word that does not stand out is passed over.
use Rattle.std.proofs.Common.{◌≡◌, ◌<◌, false, [], map, length, get_or, sym, ap, ◌∙◌, arith}
use Rattle.std.proofs.lemmas.List.{length-map, get_or-map}
use Rattle.snomon_library.{specs.inner.Asking.{stands_out}, proofs.Before.{passes}}
use Rattle.snomon_library.proofs.asking.others.Goals as goal

pub loop-at-preserved : goal.loop-at-preserved
loop-at-preserved g c = λ some.
    let words = c.args.words.now in
    let at = c.loop-at.at in
    let here : at < length words = omega (arith, c.loop-at-test.true) in
    let within : at < length (map g.S.AsStr.text words) = omega (arith, here, length-map words g.S.AsStr.text) in
    let text_is = get_or-map g.S.AsStr.text words at c.index-words-at.result [] here ∙ ap g.S.AsStr.text (sym c.index-words-at.is) ∙ sym c.as_str.ensures in
    let plain : stands_out (get_or (map g.S.AsStr.text words) at []) ≡ false = ap stands_out text_is ∙ sym c.stands_out.ensures ∙ c.if-stands_out.false in
    c.loop-at.invariant some ∙ passes (map g.S.AsStr.text words) at within plain
