-- What is cut is a blank, and what is left ends in another character.
use Rattle.std.proofs.Common.{◌-◌, ◌≤◌, ◌∙◌, length, arith}
use Rattle.sno_text.proofs.Trimming.{one_less, no_more, nothing}
use Rattle.sno_text.proofs.text.without_trailing_blanks.Goals as goal
use Rattle.sno_text.proofs.text.without_trailing_blanks.Goals.{then-loop-end-test+else-text-end-eq32, else-loop-end-test}

pub loop-end-preserved : goal.loop-end-preserved
loop-end-preserved c =
    let within : c.loop-end.end - 1 ≤ length c.args.text.now = omega (arith, c.loop-end.invariant.0) in
    (within, one_less c.args.text.now c.loop-end.end c.loop-end-test.true c.loop-end.invariant.0 c.if-text-end-eq32.true ∙ c.loop-end.invariant.1)

pub returns : goal.returns
returns c =
    elim c.loop-end-test.branch [
      | then-loop-end-test+else-text-end-eq32 w ↦ no_more c.args.text.now c.loop-end.end w.loop-end-test.true c.loop-end.invariant.0 w.if-text-end-eq32.false ∙ c.loop-end.invariant.1
      | else-loop-end-test w ↦ nothing c.args.text.now c.loop-end.end (omega (arith, w.loop-end-test.false)) ∙ c.loop-end.invariant.1
    ]
