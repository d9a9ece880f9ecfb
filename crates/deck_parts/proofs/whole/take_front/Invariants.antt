-- The lines so far stand before the rest.
use Rattle.std.proofs.Common.{◌≡◌, ◌++◌, length}
use Rattle.deck_parts.proofs.whole.take_front.Given as goal

abbrev pub invariant-lines : goal.invariant-lines
invariant-lines l = record { all : l.front.items ++ l.rest ≡ l.fn.front.items ++ l.fn.deck }

abbrev pub decreases-lines : goal.decreases-lines
decreases-lines l = length l.rest
