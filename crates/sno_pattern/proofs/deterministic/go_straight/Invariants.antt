use Rattle.std.proofs.Common.{◌≡◌, ◌≤◌, [], ◌∷◌, length}
use Rattle.sno_text.specs.Nodes.{pattern_of}
use Rattle.sno_pattern.specs.Steps.{Meet, outcome}
use Rattle.sno_pattern.proofs.deterministic.go_straight.Given as goal

abbrev pub invariant-loop-node : goal.invariant-loop-node
invariant-loop-node l = record {
  same : outcome l.text (Meet (pattern_of l.pattern) ∷ []) l.from [] l.limit ≡ outcome l.text (Meet (pattern_of l.node) ∷ []) l.at l.pending.items l.left;
  within : l.at ≤ length l.text;
}

abbrev pub decreases-loop-node : goal.decreases-loop-node
decreases-loop-node l = l.left
