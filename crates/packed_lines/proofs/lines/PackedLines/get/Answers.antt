-- The line at the index, where there is one.
use Rattle.std.proofs.Common.{arith}
use Rattle.std.proofs.lemmas.Option.{slice_get_past, slice_get-get_or}
use Rattle.packed_lines.proofs.Standing.{counted}
use Rattle.packed_lines.proofs.lines.PackedLines.get.Goals as goal

pub at-requires : goal.at-requires
at-requires c = grind (arith, counted _ _ _ _ c.self.invariant)

pub returns-then-at-len-clause-value : goal.returns-then-at-len-clause-value
returns-then-at-len-clause-value c = grind (arith, slice_get-get_or, counted _ _ _ _ c.self.invariant)

pub returns-else-at-len-clause-value : goal.returns-else-at-len-clause-value
returns-else-at-len-clause-value c = grind (arith, slice_get_past, counted _ _ _ _ c.self.invariant)
