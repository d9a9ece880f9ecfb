-- A value above i64 only grows by what is left of the digits.
use Rattle.std.proofs.Common.{arith, pos, Some, ◌≤◌}
use Rattle.mon_text.specs.Counts.{value_of}
use Rattle.sno_lexer.proofs.Runs.{value_grows, none_above}
use Rattle.sno_lexer.proofs.begin.value_of.Goals as goal

pub returns-then-value-ge9223372036854775808 : goal.returns-then-value-ge9223372036854775808
returns-then-value-ge9223372036854775808 c =
    let all = value_of c.args.digits.now in
    let grown = value_grows c.args.digits.now c.loop-digit.digit-index c.loop-digit.value all c.loop-digit-test.true c.loop-digit.invariant.value in
    let above : 9223372036854775808 ≤ all = omega arith in
    none_above all 9223372036854775808 (Some (pos all)) above
