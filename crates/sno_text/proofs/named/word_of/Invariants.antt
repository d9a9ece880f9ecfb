-- The word tells the characters from the one it has come to on.
use Rattle.std.proofs.Common.{◌≡◌, ◌≤◌, length, drop}
use Rattle.sno_text.specs.inner.Words.{told}
use Rattle.sno_text.proofs.named.word_of.Given as goal

abbrev pub invariant-loop-left : goal.invariant-loop-left
invariant-loop-left l = (l.left ≤ length l.text) × (l.word ≡ told (drop l.left l.text))

abbrev pub decreases-loop-left : goal.decreases-loop-left
decreases-loop-left l = l.left
