-- What has been put is written before what is left of the run.
use Rattle.std.proofs.Common.{◌≡◌, ◌++◌, drop}
use Rattle.programs.specs.inner.Runs.{lefts_text}
use Rattle.programs.proofs.reading.expression.+printing.Given as goal

abbrev pub invariant-put_lefts-loop-i : goal.invariant-put_lefts-loop-i
invariant-put_lefts-loop-i l = l.out.items ++ lefts_text (drop l.i l.run) ≡ l.fn.out.items ++ lefts_text l.run
