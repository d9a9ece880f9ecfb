-- With the lines that are left it comes to all.
use Rattle.std.proofs.Common.{◌≡◌, length}
use Rattle.std.specs.Str.Lines.{lines}
use Rattle.ledger_sets.proofs.Applied.{added}
use Rattle.ledger_sets.proofs.applying.add_lines.Given as goal

abbrev pub invariant-lines : goal.invariant-lines
invariant-lines l = added (lines l.rest) l.set ≡ added (lines l.fn.text) l.fn.set

abbrev pub decreases-lines : goal.decreases-lines
decreases-lines l = length l.rest
