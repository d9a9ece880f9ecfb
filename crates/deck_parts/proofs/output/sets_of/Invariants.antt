use Rattle.std.proofs.Common.{length}
use Rattle.deck_parts.proofs.output.sets_of.Given as goal

abbrev pub decreases-sets : goal.decreases-sets
decreases-sets l = length l.rest
