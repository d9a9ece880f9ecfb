-- One line more is put, and at the end all are.
use Rattle.std.proofs.Common.{ℕ, List, [], ◌∷◌, ◌++◌, get_or, ap, arith}
use Rattle.std.proofs.lemmas.List.{get_or_default}
use Rattle.mon_device.proofs.Putting.{puts_nothing, puts_same, puts_each, puts_all}
use Rattle.packed_lines.proofs.lines.PackedLines.print_each.Goals as goal

pub loop-index-init : goal.loop-index-init
loop-index-init g c = puts_nothing _

pub loop-index-preserved : goal.loop-index-preserved
loop-index-preserved g c =
    let printed = λ (line : List ℕ). c.args.before.now ++ line ++ 10 ∷ [] in
    let line = get_or c.args.self.now c.loop-index.index [] in
    puts_each printed c.args.self.now c.loop-index.index line _ _ _ (omega arith)
    (get_or_default c.args.self.now c.loop-index.index [] line (omega arith)) c.loop-index.invariant (puts_same _ _ _ _ (ap printed c.at.ensures.value) c.put_line.ensures)

pub returns : goal.returns
returns g c = puts_all (λ (line : List ℕ). c.args.before.now ++ line ++ 10 ∷ []) c.args.self.now c.loop-index.index _ _ (omega arith) c.loop-index.invariant
