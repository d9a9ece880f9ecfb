-- One more pair is in the table.
use Rattle.std.proofs.Common.{arith, ◌<◌, ◌∙◌, get_or}
use Rattle.std.proofs.lemmas.List.{length-set}
use Rattle.sno_value.proofs.Replacing.{set_one}
use Rattle.sno_value.proofs.texts.replacements.Goals as goal

pub loop-at-preserved : goal.loop-at-preserved
loop-at-preserved c =
    let small = c.type_inv.from c.loop-at.at in
    let within : get_or c.args.from.now c.loop-at.at 0 < 256 = omega (arith, small) in
    record {
      whole = length-set c.loop-at.table (get_or c.args.from.now c.loop-at.at 0) (get_or c.args.to.now c.loop-at.at 0) ∙ c.loop-at.invariant.whole;
      replaced = λ k h. set_one c.loop-at.table c.args.from.now c.args.to.now c.loop-at.at k (omega arith) c.requires (omega arith) (c.loop-at.invariant.replaced k h);
    }
