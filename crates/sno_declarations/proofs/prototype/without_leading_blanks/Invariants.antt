use Rattle.std.proofs.Common.{◌≡◌, ◌-◌, ◌≤◌, length, drop}
use Rattle.sno_declarations.proofs.prototype.without_leading_blanks.Given as goal
use Rattle.mon_text.specs.{Beginnings.{without_leading}, Characters.{is_blank}}

abbrev pub invariant-loop-from : goal.invariant-loop-from
invariant-loop-from l = (l.from ≤ length l.text) × (without_leading is_blank (drop l.from l.text) ≡ without_leading is_blank l.text)

abbrev pub decreases-loop-from : goal.decreases-loop-from
decreases-loop-from l = length l.text - l.from
