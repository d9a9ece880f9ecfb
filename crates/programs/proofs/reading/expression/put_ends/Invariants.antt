-- The end of each behind the one that comes next has been put.
use Rattle.std.proofs.Common.{◌≡◌, ◌≤◌, ◌++◌, drop, length}
use Rattle.programs.specs.inner.Runs.{ends_text}
use Rattle.programs.proofs.reading.expression.put_ends.Given as goal

abbrev pub invariant-loop-left : goal.invariant-loop-left
invariant-loop-left l = record {
  text : l.out.items ≡ l.fn.out.items ++ ends_text (drop l.left l.run);
  within : l.left ≤ length l.run;
}

abbrev pub decreases-loop-left : goal.decreases-loop-left
decreases-loop-left l = l.left
