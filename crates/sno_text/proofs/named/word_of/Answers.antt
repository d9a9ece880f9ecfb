-- The word of no character is 1, and each character before it makes one more word.
use Rattle.std.proofs.Common.{◌≡◌, ◌≤◌, ◌-◌, ◌∙◌, drop, refl, sym, ap, arith}
use Rattle.sno_text.{specs.inner.Words.{told}, proofs.Words.{told_none, told_more}}
use Rattle.sno_text.proofs.named.word_of.Goals as goal

pub returns-then-text-gt-MOST_TOLD : goal.returns-then-text-gt-MOST_TOLD
returns-then-text-gt-MOST_TOLD c = λ some. absurd (some refl)

pub loop-left-init : goal.loop-left-init
loop-left-init c = (omega arith, sym (told_none c.args.text.now))

pub loop-left-preserved : goal.loop-left-preserved
loop-left-preserved c =
    let some : 1 ≤ c.loop-left.left = omega (arith, c.loop-left-test.true) in
    let more = told_more c.args.text.now (c.loop-left.left - 1) c.loop-left.left (omega arith) (omega (arith, c.loop-left.invariant.0)) in
    let word = c.loop-left.invariant.1 in
    let times = c.in-Some.ensures.1 in
    let plus = c.in-Some-checked_add.ensures.1 in
    let from = c.from.ensures in
    (omega (arith, c.loop-left.invariant.0), omega (arith, more, word, times, plus, from))

pub returns-in-None : goal.returns-in-None
returns-in-None c = λ some. absurd (some refl)

pub returns : goal.returns
returns c =
    let none : c.loop-left.left ≡ 0 = omega (arith, c.loop-left-test.false) in
    λ some. c.loop-left.invariant.1 ∙ ap (λ at. told (drop at c.args.text.now)) none
