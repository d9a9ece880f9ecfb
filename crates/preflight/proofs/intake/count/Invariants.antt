-- After the lines so far the rest of the text stands where the reader says.
use Rattle.std.proofs.Common.{◌+◌, ◌≤◌, length}
use Rattle.deck_syntax.specs.Events.{open_in}
use Rattle.preflight.proofs.Reached.{Reached}
use Rattle.preflight.proofs.intake.count.Given as goal

abbrev pub invariant-lines : goal.invariant-lines
invariant-lines l = record {
  reached : Reached l.fn.own l.fn.text (open_in l.reader) l.counts l.rest;
  few : l.counts.number + length l.rest ≤ 1 + length l.fn.text;
}

abbrev pub decreases-lines : goal.decreases-lines
decreases-lines l = length l.rest
