-- A number that is too large stays so.
use Rattle.std.proofs.Common.{arith}
use Rattle.sno_declarations.proofs.Numbers.{past}
use Rattle.sno_declarations.proofs.format.number_to.Goals as goal

pub returns-then-number-most-clause-number : goal.returns-then-number-most-clause-number
returns-then-number-most-clause-number c =
    past c.args.most c.args.text.now c.loop-digit.number c.loop-digit.digit-index c.loop-digit-test.true c.loop-digit.invariant.0 (omega (arith, c.if-number-most.true, c.from.ensures))
