-- As many lines as ends.
use Rattle.std.proofs.Common.{arith}
use Rattle.packed_lines.proofs.Standing.{counted}
use Rattle.packed_lines.proofs.lines.PackedLines.len.Goals as goal

pub returns : goal.returns
returns c = grind (arith, counted _ _ _ _ c.self.invariant)
