use Rattle.std.proofs.Common.{length, ◌-◌, ◌≡◌, ◌≤◌}
use Rattle.std.specs.Prelude.{drop}
use Rattle.sno_text.{specs.Balance.{balanced_ends}, specs.inner.Reaching.{closes}, proofs.Balance.{ends_where}}
use Rattle.sno_text.proofs.reach.next_balanced.Given as goal

abbrev pub invariant-loop-at : goal.invariant-loop-at
invariant-loop-at l = record {
  within : l.at ≤ length l.text;
  few : l.opened ≤ l.at;
  same : balanced_ends l.text l.from ≡ ends_where (closes l.opened) l.at (drop l.at l.text);
}

abbrev pub decreases-loop-at : goal.decreases-loop-at
decreases-loop-at l = length l.text - l.at
