use Rattle.std.proofs.Common.{◌≡◌, ◌+◌, ◌≤◌, [], length}
use Rattle.std.specs.Str.Lines.{lines}
use Rattle.mon_catalogue.specs.Progress.{SetDue, lines_taken}
use Rattle.site_plan.specs.{Walks.{walked}, Catalogues.{after_line}}
use Rattle.site_plan.proofs.catalogue.read_sets.Given as goal

abbrev pub invariant-lines : goal.invariant-lines
invariant-lines l = record {
  so_far : walked after_line l.number l.loading (lines l.rest) ≡ walked after_line 2 (SetDue l.fn.version 0 []) (lines l.fn.text);
  counted : l.number + length (lines l.rest) ≡ 2 + length (lines l.fn.text);
  few : l.number + length l.rest ≤ 2 + length l.fn.text;
  taken : lines_taken l.loading + length l.rest ≤ length l.fn.text;
}

abbrev pub decreases-lines : goal.decreases-lines
decreases-lines l = length l.rest
