use Rattle.std.proofs.Common.{◌≡◌, length}
use Rattle.acl_text.specs.Texts.{is_gap}
use Rattle.acl_text.proofs.fields.without_leading_gaps.Given as goal
use Rattle.mon_text.specs.Beginnings.{without_leading}

abbrev pub invariant-loop-text : goal.invariant-loop-text
invariant-loop-text l = without_leading is_gap l.text ≡ without_leading is_gap l.fn.text

abbrev pub decreases-loop-text : goal.decreases-loop-text
decreases-loop-text l = length l.text
