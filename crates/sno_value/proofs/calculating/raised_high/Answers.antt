-- A power with a large exponent.
use Rattle.std.proofs.Common.{ap, sym, ◌∙◌, w64}
use Rattle.std.{specs.Prelude.{Some, unsigned_abs, pos, int_le}, proofs.lemmas.Int.{to_z-of_z}}
use Rattle.sno_value.proofs.Powers.{own_power, even_power, odd_power, no_power}
use Rattle.sno_value.proofs.calculating.raised_high.Goals as goal

pub returns-then-unsigned_abs-gt1 : goal.returns-then-unsigned_abs-gt1
returns-then-unsigned_abs-gt1 c =
    let same = to_z-of_z w64 c.args.base c.ranges.base in
    no_power c.args.base c.args.exponent c.unsigned_abs.result (c.unsigned_abs.ensures.value ∙ ap unsigned_abs same) c.if-unsigned_abs-gt1.true c.requires

pub returns-then-base-ge0 : goal.returns-then-base-ge0
returns-then-base-ge0 c =
    let same = to_z-of_z w64 c.args.base c.ranges.base in
    ap Some same ∙ own_power c.args.base c.args.exponent c.unsigned_abs.result (c.unsigned_abs.ensures.value ∙ ap unsigned_abs same) c.if-unsigned_abs-gt1.false
    (sym (ap (int_le (pos 0)) same) ∙ c.if-base-ge0.true) c.requires

pub returns-then-exponent-eq0 : goal.returns-then-exponent-eq0
returns-then-exponent-eq0 c =
    let same = to_z-of_z w64 c.args.base c.ranges.base in
    even_power c.args.base c.args.exponent c.unsigned_abs.result (c.unsigned_abs.ensures.value ∙ ap unsigned_abs same) c.if-unsigned_abs-gt1.false
    (sym (ap (int_le (pos 0)) same) ∙ c.if-base-ge0.false) c.if-exponent-eq0.true

pub returns-else-exponent-eq0 : goal.returns-else-exponent-eq0
returns-else-exponent-eq0 c =
    let same = to_z-of_z w64 c.args.base c.ranges.base in
    odd_power c.args.base c.args.exponent c.unsigned_abs.result (c.unsigned_abs.ensures.value ∙ ap unsigned_abs same) c.if-unsigned_abs-gt1.false
    (sym (ap (int_le (pos 0)) same) ∙ c.if-base-ge0.false) c.if-exponent-eq0.false
