use Rattle.std.proofs.Common.{◌≡◌, take}
use Rattle.sno_pattern.specs.inner.Stack.{waiting_of}
use Rattle.sno_pattern.proofs.matching.assignments_of.Given as goal

abbrev pub invariant-loop-waiting : goal.invariant-loop-waiting
invariant-loop-waiting l = record {
  so_far : l.list.items ≡ waiting_of l.text (take l.waiting-index l.waits);
}
