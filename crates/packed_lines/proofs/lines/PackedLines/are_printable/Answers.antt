-- Each is printable.
use Rattle.packed_lines.proofs.Standing.{known}
use Rattle.packed_lines.proofs.lines.PackedLines.are_printable.Goals as goal

pub returns : goal.returns
returns c = (known _ _ _ _ c.self.view_is c.self.invariant).printable
