-- With the lines that are left it comes to all.
use Rattle.std.proofs.Common.{◌≡◌, ◌+◌, ◌≤◌, length}
use Rattle.std.specs.{List.{fold}, Str.Lines.{lines}}
use Rattle.mon_catalogue.specs.Progress.{step, lines_taken}
use Rattle.ledger_sets.proofs.reading.take_lines.Given as goal

abbrev pub invariant-lines : goal.invariant-lines
invariant-lines l = record {
  so_far : fold step l.loading (lines l.rest) ≡ fold step l.fn.loading (lines l.fn.text);
  counted : lines_taken l.loading + length l.rest ≤ lines_taken l.fn.loading + length l.fn.text;
}

abbrev pub decreases-lines : goal.decreases-lines
decreases-lines l = length l.rest
