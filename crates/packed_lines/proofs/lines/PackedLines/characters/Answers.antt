-- They stand one behind the other, each with LF behind it.
use Rattle.std.proofs.Common.{length, ap, arith}
use Rattle.packed_lines.proofs.Standing.{counted, how_long, known}
use Rattle.packed_lines.proofs.lines.PackedLines.characters.Goals as goal

pub overflow_sub-result : goal.overflow_sub-result
overflow_sub-result c =
    let p = known _ _ _ _ c.self.view_is c.self.invariant in
    grind (arith, ap length p.joined, how_long c.args.self.now, counted _ _ _ _ p)

pub returns : goal.returns
returns c =
    let p = known _ _ _ _ c.self.view_is c.self.invariant in
    grind (arith, ap length p.joined, how_long c.args.self.now, counted _ _ _ _ p)
