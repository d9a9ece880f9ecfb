use Rattle.sno_text.specs.Nodes.{pattern_of}
use Rattle.sno_pattern.proofs.Missing.{LeadsTo}
use Rattle.sno_pattern.proofs.starting.left_where_missed.Given as goal

abbrev pub invariant-loop-left : goal.invariant-loop-left
invariant-loop-left l = LeadsTo l.text (pattern_of l.node) l.at l.limit (pattern_of l.part) l.left

abbrev pub decreases-loop-left : goal.decreases-loop-left
decreases-loop-left l = l.left
