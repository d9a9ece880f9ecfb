use Rattle.std.proofs.Common.{◌≡◌, ◌≤◌, ◌+◌, ◌-◌, List, ◌∷◌, length}
use Rattle.std.specs.List.{range_with_len}
use Rattle.sno_text.specs.Nodes.{pattern_of}
use Rattle.sno_pattern.specs.{declared.ending.Pending.{Pending}, Steps.{Goal, Meet, at_each, outcome}}
use Rattle.sno_pattern.proofs.choice_points.skip_node.Given as goal

abbrev pub invariant-loop-at : goal.invariant-loop-at
invariant-loop-at l = record {
  within : l.at ≤ length l.text;
  fewer : l.steps ≤ l.fn.left;
  same : (r : List Goal) (p : List Pending) → at_each (outcome l.text) (Meet (pattern_of l.node) ∷ r)
      (range_with_len l.from (length l.text + 1 - l.from)) p l.fn.left
      ≡ at_each (outcome l.text) (Meet (pattern_of l.node) ∷ r) (range_with_len l.at (length l.text + 1 - l.at)) p l.steps;
}

abbrev pub decreases-loop-at : goal.decreases-loop-at
decreases-loop-at l = l.steps
