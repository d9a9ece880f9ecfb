-- The lines that are left make, behind what was collected, the deck that all lines make.
use Rattle.std.proofs.Common.{◌≡◌, ◌+◌, ◌≤◌, length}
use Rattle.std.specs.Str.Lines.{lines}
use Rattle.deck_syntax.specs.Sections.{deck_of}
use Rattle.deck_syntax.specs.Reading.{deck_ahead, lines_read}
use Rattle.access_report.proofs.front.read_front.Given as goal

abbrev pub invariant-lines : goal.invariant-lines
invariant-lines l = record {
  left : deck_ahead l.reader (l.number + 1) (lines l.rest) ≡ deck_of (lines l.fn.bytes);
  loaded : lines_read l.reader ≤ l.number;
  few : l.number + length l.rest ≤ length l.fn.bytes;
}

abbrev pub decreases-lines : goal.decreases-lines
decreases-lines l = length l.rest
