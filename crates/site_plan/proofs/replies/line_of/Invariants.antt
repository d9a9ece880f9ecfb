use Rattle.std.proofs.Common.{◌≡◌, length}
use Rattle.std.specs.Str.Lines.{lines}
use Rattle.site_plan.specs.Replies.{line_at}
use Rattle.site_plan.proofs.replies.line_of.Given as goal

abbrev pub invariant-lines : goal.invariant-lines
invariant-lines l = line_at l.left (lines l.rest) ≡ line_at l.fn.number (lines l.fn.text)

abbrev pub decreases-lines : goal.decreases-lines
decreases-lines l = length l.rest
