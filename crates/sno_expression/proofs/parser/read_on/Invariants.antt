use Rattle.std.proofs.Common.{◌≡◌, ◌≤◌, ◌-◌, drop, length}
use Rattle.sno_expression.{specs.inner.Telling.{told, with_lack}, specs.inner.Told.{state_of}}
use Rattle.sno_expression.proofs.parser.read_on.Given as goal

abbrev pub invariant-loop-at : goal.invariant-loop-at
invariant-loop-at l = record {
  same : told l.fn.alone (state_of l.fn.begun) l.tokens ≡ with_lack l.lacking (told l.alone (state_of l.state) (drop l.at l.tokens));
  within : l.at ≤ length l.tokens;
}

abbrev pub decreases-loop-at : goal.decreases-loop-at
decreases-loop-at l = length l.tokens - l.at
