-- The lines so far are written, and those of the rest are still to come.
use Rattle.std.proofs.Common.{◌≡◌, ◌++◌, length}
use Rattle.std.specs.Str.Lines.{lines}
use Rattle.mon_catalogue.specs.Text.{text_of}
use Rattle.deck_syntax.proofs.lines.whole_lines.Given as goal

abbrev pub invariant-lines : goal.invariant-lines
invariant-lines l = record { written : l.whole.items ++ text_of (lines l.rest) ≡ text_of (lines l.fn.text) }

abbrev pub decreases-lines : goal.decreases-lines
decreases-lines l = length l.rest
