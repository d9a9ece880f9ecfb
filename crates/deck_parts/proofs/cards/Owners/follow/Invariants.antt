use Rattle.std.proofs.Common.{length}
use Rattle.deck_parts.proofs.cards.Owners.follow.Given as goal

abbrev pub decreases-lines : goal.decreases-lines
decreases-lines l = length l.rest
