use Rattle.std.proofs.Common.{◌-◌, ◌≡◌, ◌≤◌}
use Rattle.sno_text.specs.Nodes.{pattern_of}
use Rattle.sno_pattern.specs.Steps.{from_starts}
use Rattle.sno_pattern.proofs.starting.skip_starts.Given as goal

abbrev pub invariant-loop-at : goal.invariant-loop-at
invariant-loop-at l = record {
  within : l.at ≤ l.starts;
  onward : l.from ≤ l.at;
  same : from_starts l.text (pattern_of l.node) (l.starts - l.from) l.from l.fn.left ≡ from_starts l.text (pattern_of l.node) (l.starts - l.at) l.at l.left;
}

abbrev pub decreases-loop-at : goal.decreases-loop-at
decreases-loop-at l = l.starts - l.at
