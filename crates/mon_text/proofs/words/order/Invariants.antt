use Rattle.std.proofs.Common.{◌≡◌, ◌*◌, drop, nat_cmp}
use Rattle.std.specs.Cmp.Lexicographic.{slice_cmp}
use Rattle.mon_text.proofs.words.order.Given as goal

abbrev pub invariant-loop-i : goal.invariant-loop-i
invariant-loop-i l = slice_cmp nat_cmp l.x l.y ≡ slice_cmp nat_cmp (drop (l.i * 8) l.x) (drop (l.i * 8) l.y)
