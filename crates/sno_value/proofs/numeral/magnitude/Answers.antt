-- A value above the limit only grows by what is left of the digits.
use Rattle.std.proofs.Common.{arith, Some, ◌<◌}
use Rattle.mon_text.specs.Counts.{value_of}
use Rattle.sno_value.proofs.Numerals.{value_grows, none_above}
use Rattle.sno_value.proofs.numeral.magnitude.Goals as goal

pub returns-then-value-gt9223372036854775808 : goal.returns-then-value-gt9223372036854775808
returns-then-value-gt9223372036854775808 c =
    let all = value_of c.args.digits.now in
    let grown = value_grows c.args.digits.now c.loop-digit.digit-index c.loop-digit.value all c.loop-digit-test.true c.loop-digit.invariant.value in
    let above : 9223372036854775808 < all = omega arith in
    none_above all 9223372036854775808 (Some all) above
