-- One piece more is put, and at the end all are.
use Rattle.std.proofs.Common.{◌≤◌, ◌∙◌, length, ap, arith}
use Rattle.std.proofs.lemmas.List.{take_all}
use Rattle.mon_device.proofs.Putting.{puts_nothing, puts_same}
use Rattle.packed_lines.{specs.Packing.{printed}, proofs.Standing.{known}, proofs.Gathering.{piece_put}}
use Rattle.packed_lines.proofs.lines.PackedLines.print_whole.Goals as goal

pub loop-from-init : goal.loop-from-init
loop-from-init g c = record { put = puts_nothing _; within = omega arith }

pub loop-from-smaller : goal.loop-from-smaller
loop-from-smaller g c = grind (arith, ap length (known _ _ _ _ c.self.view_is c.self.invariant).joined)

pub loop-from-preserved : goal.loop-from-preserved
loop-from-preserved g c =
    let joined = (known _ _ _ _ c.self.view_is c.self.invariant).joined in
    let onward : c.loop-from.from ≤ c.min-to.result = grind arith in
    record {
      put = piece_put _ _ _ (printed c.args.self.now) c.deref.result.now c.loop-from.from c.min-to.result (c.deref.ensures.value ∙ joined) onward c.loop-from.invariant.put c.put.ensures;
      within = grind (arith, ap length joined);
    }

pub returns : goal.returns
returns g c =
    let long = ap length (known _ _ _ _ c.self.view_is c.self.invariant).joined in
    puts_same _ _ _ _ (take_all c.loop-from.from (printed c.args.self.now) (grind (arith, long))) c.loop-from.invariant.put
