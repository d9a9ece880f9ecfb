-- Where the line before it ends.
use Rattle.std.proofs.Common.{arith}
use Rattle.packed_lines.proofs.Standing.{counted, known, start_is}
use Rattle.packed_lines.proofs.lines.PackedLines.start.Goals as goal

pub index-requires : goal.index-requires
index-requires c = grind (arith, counted _ _ _ _ c.self.invariant)

pub returns-else-at-eq0 : goal.returns-else-at-eq0
returns-else-at-eq0 c =
    start_is _ c.args.at _ _ c.args.self.now c.index.result.now (known _ _ _ _ c.self.view_is c.self.invariant) (grind arith) c.requires c.index.ensures
