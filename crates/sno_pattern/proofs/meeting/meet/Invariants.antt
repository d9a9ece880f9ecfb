use Rattle.std.proofs.Common.{◌∷◌}
use Rattle.sno_text.specs.Nodes.{pattern_of}
use Rattle.sno_pattern.specs.{declared.choice_points.Turn.TheVariants.{Meet as MeetNow}, Steps.{Meet, outcome}, inner.Stack.{waiting_of}}
use Rattle.sno_pattern.proofs.Run.{Since}
use Rattle.sno_pattern.proofs.meeting.meet.Given as goal

-- so far: the attempt is the pattern that is met next, with the choices that are open
abbrev pub invariant-loop-node : goal.invariant-loop-node
invariant-loop-node g l = record {
  on : Since g.H.MatchHost.tells g.H.MatchHost.broken l.text l.fn.host l.fn.trail.opens
      (outcome l.text (Meet (pattern_of l.fn.pattern.value) ∷ l.fn.trail.goals) l.start (waiting_of l.text l.fn.trail.waits) l.fn.left)
      l.fn.left l.host (MeetNow l.node l.from) l.trail l.left;
  ready : g.H.MatchHost.ready l.host;
}

abbrev pub decreases-loop-node : goal.decreases-loop-node
decreases-loop-node g l = l.left
