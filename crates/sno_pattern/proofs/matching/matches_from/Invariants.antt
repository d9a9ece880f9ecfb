use Rattle.std.proofs.Common.{◌-◌}
use Rattle.sno_pattern.{specs.inner.Running.{finishing}, proofs.Run.{Came}}
use Rattle.sno_text.specs.Nodes.{pattern_of}
use Rattle.sno_pattern.proofs.matching.matches_from.Given as goal

abbrev pub invariant-loop-from : goal.invariant-loop-from
invariant-loop-from g l = record {
  came : Came g.H.MatchHost.tells g.H.MatchHost.broken l.text (pattern_of l.pattern.value) l.fn.host
      (finishing l.text (pattern_of l.pattern.value) (l.starts - l.first) l.first l.limit) l.host (l.starts - l.from) l.from l.left;
  ready : g.H.MatchHost.ready l.host;
}

abbrev pub decreases-loop-from : goal.decreases-loop-from
decreases-loop-from g l = l.starts - l.from
