-- What is written so far and the statements that are left make the whole.
use Rattle.std.proofs.Common.{◌≡◌, ◌++◌, ◌≤◌, drop}
use Rattle.programs.specs.inner.Answers.{statements_from}
use Rattle.programs.proofs.reading.answer.put_each.Given as goal

abbrev pub invariant-loop-index : goal.invariant-loop-index
invariant-loop-index l = record {
  whole : l.fn.out.items ++ statements_from l.labels 0 0 l.statements ≡ l.out.items ++ statements_from l.labels l.count l.index (drop l.index l.statements);
  within : l.count ≤ l.index;
}
