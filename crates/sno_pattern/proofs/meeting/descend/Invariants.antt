use Rattle.std.proofs.Common.{◌∷◌}
use Rattle.sno_text.specs.Nodes.{pattern_of}
use Rattle.sno_pattern.{specs.Steps.{Meet, outcome}, specs.inner.Stack.{waiting_of}, proofs.Entering.{Coming}}
use Rattle.sno_pattern.proofs.meeting.descend.Given as goal

abbrev pub invariant-loop-left : goal.invariant-loop-left
invariant-loop-left l = Coming l.text l.fn.trail.opens (outcome l.text (Meet (pattern_of l.pattern.value) ∷ l.fn.trail.goals) l.from
    (waiting_of l.text l.fn.trail.waits) l.fn.left) l.fn.left (pattern_of l.node.value) l.trail.goals l.at
    (waiting_of l.text l.trail.waits) l.trail.opens l.left

abbrev pub decreases-loop-left : goal.decreases-loop-left
decreases-loop-left l = l.left
