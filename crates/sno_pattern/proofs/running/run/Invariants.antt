use Rattle.std.proofs.Common.{[], ◌∷◌}
use Rattle.sno_text.specs.Nodes.{pattern_of}
use Rattle.sno_pattern.{specs.Steps.{Meet, outcome}, specs.inner.Stack.{rank}, proofs.Run.{On}}
use Rattle.sno_pattern.proofs.running.run.Given as goal

abbrev pub invariant-loop-left : goal.invariant-loop-left
invariant-loop-left g l = record {
  on : On g.H.MatchHost.tells g.H.MatchHost.broken l.text l.fn.host
      (outcome l.text (Meet (pattern_of l.pattern.value) ∷ []) l.start [] l.limit) l.limit l.host l.turn l.trail l.left;
  ready : g.H.MatchHost.ready l.host;
}

abbrev pub decreases-loop-left : goal.decreases-loop-left
decreases-loop-left g l = rank l.turn l.left
